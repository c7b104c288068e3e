-- What the calls of a scope do: the events of a part of a pattern, from what the scope is.
use Rattle.std.specs.Prelude.{◌≡◌, List, [], ◌∷◌, ◌++◌, length, Bool, true, false, Option, None, Some, Result, OnOk, IfOk}
use Rattle.std.specs.Borrow.{Bor}
use Rattle.std.specs.Option.{option_map}
use Rattle.std.specs.declared.vec.Vec.{Vec}
use Rattle.std.proofs.Common.{Global}
use Rattle.fluent_ast.specs.Fallback.{fallback_of}
use Rattle.fluent_ast.specs.Tree.{Text, Pattern, Expression, Inline, Arguments, arguments, no_inlines, no_nameds}
use Rattle.fluent_ast.specs.View.{arguments_view}
use Rattle.fluent_ast.specs.declared.ast.CallArguments.{CallArguments}
use Rattle.fluent_bundle_entries.specs.declared.errors.FluentError.{FluentError}
use Rattle.fluent_semantics.specs.Ahead.{Rest, ahead, closed_ahead, comes, events_of, handed}
use Rattle.fluent_semantics.specs.Arguments.{Map}
use Rattle.fluent_semantics.specs.Errors.{Error}
use Rattle.fluent_semantics.specs.Events.{Event, entered, errors_in, spent, text_in}
use Rattle.fluent_semantics.specs.Meaning.{Budget, Ran}
use Rattle.fluent_semantics.specs.Result.{arguments_of, maybe_tracked, tracked}
use Rattle.fluent_semantics.specs.Value.{Value}
use Rattle.fluent_semantics.specs.Walk.{called, expression, go, inner, is_on, whole}
use Rattle.fluent_resolver_state.specs.Gathered.{values_of}
use Rattle.fluent_resolver_state.specs.Happened.{Did, Happened}
use Rattle.fluent_resolver_state.specs.Status.{Status, reported}
use Rattle.fluent_text.specs.declared.counting.Counting.{Counting}
use Rattle.fluent_text.specs.declared.counting.WriteFault.{WriteFault}
use Rattle.fluent_values.specs.Sinks.{Sink, without_error, writer}
use Rattle.fluent_values.specs.View.{named}
use Rattle.fluent_values.specs.declared.args.FluentArgs.{FluentArgs}
use Rattle.fluent_values.specs.declared.types.value.FluentValue.{FluentValue}
use Rattle.fluent_text.specs.Changes.{Change}

-- ---- the events of parts

-- a whole pattern
abbrev pub pattern_events : {B : Type 0} → Pattern → Status B → List Event
pattern_events p s = events_of (whole (ahead Text) s.bundle (comes s.bundle) s.environment s.path p) s.budget

-- a pattern that an expression refers to
abbrev pub tracked_events : {B : Type 0} → Pattern → Inline → Status B → List Event
tracked_events p x s = events_of (go (ahead Text) s.bundle (comes s.bundle) s.environment (is_on s.path p) s.environment s.path x p) s.budget

-- a placeable's expression, whose pattern counts as one that is entered, and its fallback where the limit is reached after it
abbrev pub maybe_tracked_events : {B : Type 0} → Pattern → Expression → Status B → List Event
maybe_tracked_events p e s = entered (length (inner s.path p)) ∷ events_of (closed_ahead (fallback_of e) (expression (ahead Text) s.bundle (comes s.bundle) s.environment (inner s.path p) e)) s.budget

-- a call's arguments, if there are any, and then their values
abbrev pub given_ahead : {B : Type 0} → Option Arguments → Status B → Rest Text
given_ahead None s = handed ([], []) s.budget
given_ahead (Some a) s = called (ahead Text) s.bundle (comes s.bundle) s.environment s.path a false handed s.budget

-- ---- what calls do

-- Of these events a prefix happened, and all of them where the answer is Ok.
abbrev pub Does : {T W B S : Type 0} → (Status B → List Event) → Result T WriteFault → (W → Option Text) → Change (Counting W) → (S → Status B) → Change S → Type 0
Does events result contents w at s =
    Did (without_error result) (events (at s.entry.now)) (writer contents w.entry.now) (writer contents w.exit.now) (at s.entry.now) (at s.exit.now)

-- Of what is ahead a prefix happened, nothing of it written, and where the answer is Ok all of it, with these values.
pub record Gets {T E B : Type 0} (result : Result T E) (see : T → List (Value Text) × Map (Value Text)) (rest : Rest Text) (s s' : Status B) : Type 0 where
  pub done : List Event
  pub left : List Event
  pub whole : done ++ left ≡ rest.events
  pub finished : OnOk result (left ≡ [])
  pub silent : text_in done ≡ []
  pub happened : (w : Sink) → Happened done w w s s'
  pub values : IfOk result (λ v. rest.values ≡ Some (see v))
  pub environment : s'.environment ≡ s.environment
  pub path : s'.path ≡ s.path

-- ---- the runs that these are

-- A run's text and errors are those of the events, and what is left of its budget.
pub record IsRunOf (ran : Ran Text) (budget : Budget) (es : List Event) : Type 0 where
  pub text : text_in es ≡ ran.value
  pub errors : errors_in es ≡ ran.errors
  pub left : spent es budget ≡ ran.budget

-- The same of a run that gives values.
pub record AreValuesOf (ran : Ran (List (Value Text) × Map (Value Text))) (budget : Budget) (rest : Rest Text) : Type 0 where
  pub values : rest.values ≡ Some ran.value
  pub text : text_in rest.events ≡ []
  pub errors : errors_in rest.events ≡ ran.errors
  pub left : spent rest.events budget ≡ ran.budget

abbrev pub TrackedRuns : {B : Type 0} → Pattern → Inline → Status B → Type 0
TrackedRuns p x s = IsRunOf (tracked s.bundle s.environment s.path p x s.budget) s.budget (tracked_events p x s)

abbrev pub MaybeTrackedRuns : {B : Type 0} → Pattern → Expression → Status B → Type 0
MaybeTrackedRuns p e s = IsRunOf (maybe_tracked s.bundle s.environment s.path p e s.budget) s.budget (maybe_tracked_events p e s)

-- where there are arguments
abbrev pub GivenRun : {B : Type 0} → Option Arguments → Status B → Type 0
GivenRun None s = Unit {0}
GivenRun (Some a) s = AreValuesOf (arguments_of s.bundle s.environment s.path a s.budget) s.budget (given_ahead (Some a) s)

-- ---- what calls are handed

-- the arguments of a call, if there are any
abbrev pub given_view : Option (Bor CallArguments) → Option Arguments
given_view given = option_map (λ a. arguments_view a.now) given

-- none are given, or two empty lists
abbrev pub are_none : Option Arguments → Bool
are_none None = true
are_none (Some (arguments no_inlines no_nameds)) = true
are_none _ = false

-- the values of a call's arguments, by content
abbrev pub given_values : {C : Type 0} → (C → Text) → Vec (FluentValue C) Global × FluentArgs C → List (Value Text) × Map (Value Text)
given_values content v = (values_of content v.0, named content v.1)

-- a list of errors, if there is one, by content
abbrev pub listed : Option (Bor (List FluentError)) → Option (List Error)
listed errors = option_map (λ es. reported es.now) errors
