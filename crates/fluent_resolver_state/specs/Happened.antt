-- What happened in a call, as a prefix of the events that it was to do.
use Rattle.std.specs.Prelude.{◌≡◌, ◌+◌, max, List, [], ◌∷◌, ◌++◌, Option, None, Some, Result, OnOk}
use Rattle.std.specs.Io.KnownBytes.{Appends}
use Rattle.fluent_ast.specs.Tree.{Text, Inline}
use Rattle.fluent_ast.specs.Fallback.{fallback, in_braces}
use Rattle.fluent_semantics.specs.Bundle.{Bundle, shown}
use Rattle.fluent_semantics.specs.Errors.{Error, resolver_error, lost, Reference, reference_of}
use Rattle.fluent_semantics.specs.Events.{Event, wrote, told, opened, reached_limit, entered, writes, tells, text_in, errors_in, spent}
use Rattle.fluent_semantics.specs.Value.{Value, error_value}
use Rattle.fluent_semantics.specs.Walk.{Environment, application, local}
use Rattle.fluent_path.specs.Contents.{counted}
use Rattle.fluent_resolver_state.specs.Status.{Status, Tally, with_errors}
use Rattle.fluent_values.specs.declared.output.Halt.{Halt}
use Rattle.fluent_values.specs.Sinks.{Sink, CountsTell}

-- what events come to, beside what was counted before
abbrev pub tallied : List Event → Tally → Tally
tallied [] c = c
tallied (wrote b ∷ es) c = tallied es c
tallied (told e ∷ es) c = tallied es c
tallied (opened ∷ es) c = tallied es (record { opened = counted (c.opened + 1); longest = c.longest; entered = c.entered })
tallied (reached_limit ∷ es) c = tallied es c
tallied (entered n ∷ es) c = tallied es (record { opened = c.opened; longest = counted (max c.longest n); entered = counted (c.entered + 1) })

-- the bundle, the list and what is stored are as they were
pub record Stays {B : Type 0} (s s' : Status B) : Type 0 where
  pub bundle : s'.bundle ≡ s.bundle
  pub borrow : s'.borrow ≡ s.borrow
  pub list : s'.list ≡ s.list
  pub stored : s'.stored ≡ s.stored
  pub is_plain : s'.is_plain ≡ s.is_plain

-- These events happened, and nothing else: text, errors, budget and counts are read off them.
pub record Happened {B : Type 0} (done : List Event) (w w' : Sink) (s s' : Status B) : Type 0 where
  pub text : Appends w.held w'.held (text_in done)
  pub errors : s'.errors ≡ with_errors s.errors (errors_in done)
  pub budget : s'.budget ≡ spent done s.budget
  pub tally : s'.tally ≡ tallied done s.tally
  pub beside : w'.beside ≡ w.beside
  pub borrowed : w'.borrowed ≡ w.borrowed
  pub stays : Stays s s'

-- Of these events a prefix happened, and all where the answer is Ok. Environment and path are as they were.
pub record Did {T B : Type 0} (result : Result T Halt) (all : List Event) (w w' : Sink) (s s' : Status B) : Type 0 where
  pub done : List Event
  pub rest : List Event
  pub whole : done ++ rest ≡ all
  pub finished : OnOk result (rest ≡ [])
  pub happened : Happened done w w' s s'
  pub fault : CountsTell w.failed w.empty w'.failed w'.empty result
  pub environment : s'.environment ≡ s.environment
  pub path : s'.path ≡ s.path

-- ---- the events of parts that need no others

-- what is reported of an expression that can't be found: nothing where it is no reference
abbrev pub lost_error : Option Reference → List Error
lost_error None = []
lost_error (Some r) = resolver_error (lost r) ∷ []

abbrev pub lost_of : Inline → List Error
lost_of x = lost_error (reference_of x)

-- errors, and then a text
abbrev pub tells_and_writes : List Error → Text → List Event
tells_and_writes es t = tells es ++ writes t

abbrev pub lost_events : Inline → List Event
lost_events x = tells_and_writes (lost_of x) (in_braces (fallback x))

-- of a variable that has no value: an error only among the application's arguments
abbrev pub missing_errors : Environment Text → Inline → List Error
missing_errors (application m) x = lost_of x
missing_errors (local m) x = []

abbrev pub variable_errors : Environment Text → Inline → Option (Value Text) → List Error
variable_errors env x (Some v) = []
variable_errors env x None = missing_errors env x

abbrev pub variable_shown : Bundle Text → Inline → Option (Value Text) → Text
variable_shown b x (Some v) = shown b v
variable_shown b x None = in_braces (fallback x)

abbrev pub variable_events : Bundle Text → Environment Text → Inline → Option (Value Text) → List Event
variable_events b env x o = tells_and_writes (variable_errors env x o) (variable_shown b x o)

-- what is written of a function's answer: of an error its fallback, without braces
abbrev pub shown_answer : Bundle Text → Inline → Value Text → Text
shown_answer b x error_value = fallback x
shown_answer b x v = shown b v

abbrev pub answer_events : Bundle Text → Inline → Option (Value Text) → List Event
answer_events b x None = lost_events x
answer_events b x (Some v) = writes (shown_answer b x v)
