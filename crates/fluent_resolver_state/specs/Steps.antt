-- Steps of a scope.
use Rattle.std.specs.Prelude.{◌≡◌, zero, suc, ◌+◌, max, List, [], ◌∷◌, ◌++◌, length, Bool, true, false, Result, OnOk, OnErr}
use Rattle.std.specs.Bool.{OnTrue, OnFalse}
use Rattle.fluent_ast.specs.Tree.{Text, Pattern}
use Rattle.fluent_semantics.specs.Arguments.{Map}
use Rattle.fluent_semantics.specs.Bundle.{Bundle}
use Rattle.fluent_semantics.specs.Errors.{Error}
use Rattle.fluent_semantics.specs.Events.{less_one}
use Rattle.fluent_semantics.specs.Meaning.{Budget, left, limit_reached}
use Rattle.fluent_semantics.specs.Value.{Value}
use Rattle.fluent_semantics.specs.Walk.{application, inner}
use Rattle.fluent_resolver_state.specs.Happened.{Stays}
use Rattle.fluent_path.specs.Contents.{counted, front}
use Rattle.fluent_resolver_state.specs.Status.{Status, with_errors}

-- whether one more placeable may be opened
abbrev pub can_open : Budget → Bool
can_open (left zero) = false
can_open (left (suc n)) = true
can_open limit_reached = false

-- these errors were added at the end of the list, if there is one
abbrev pub Reports : {B : Type 0} → Status B → Status B → List Error → Type 0
Reports s s' es = s'.errors ≡ with_errors s.errors es

-- These errors were added; or none, where the answer is no Ok.
pub record ReportsIfOk {T E B : Type 0} (result : Result T E) (errors : List Error) (s s' : Status B) : Type 0 where
  pub added : OnOk result (Reports s s' errors)
  pub alloc_failed : OnErr result (Reports s s' [])
  pub budget : s'.budget ≡ s.budget
  pub tally : s'.tally ≡ s.tally
  pub environment : s'.environment ≡ s.environment
  pub path : s'.path ≡ s.path
  pub stays : Stays s s'

-- A beginning of these errors was added, and all of them where the answer is Ok.
pub record ReportsSome {T E B : Type 0} (result : Result T E) (errors : List Error) (s s' : Status B) : Type 0 where
  pub done : List Error
  pub rest : List Error
  pub whole : done ++ rest ≡ errors
  pub finished : OnOk result (rest ≡ [])
  pub added : Reports s s' done
  pub budget : s'.budget ≡ s.budget
  pub tally : s'.tally ≡ s.tally
  pub environment : s'.environment ≡ s.environment
  pub path : s'.path ≡ s.path
  pub stays : Stays s s'

-- the state in which a call begins, of this bundle and with these arguments of the application
pub record IsAtStart {B : Type 0} (s : Status B) (b : Bundle Text) (args : Map (Value Text)) : Type 0 where
  pub bundle : s.bundle ≡ b
  pub environment : s.environment ≡ application args
  pub path : s.path ≡ []
  pub budget : s.budget ≡ left b.limit
  pub tally : s.tally ≡ record { opened = 0; longest = 0; entered = 0 }

-- all but the path and the counts is as it was
pub record Elsewhere {B : Type 0} (s s' : Status B) : Type 0 where
  pub environment : s'.environment ≡ s.environment
  pub errors : s'.errors ≡ s.errors
  pub budget : s'.budget ≡ s.budget
  pub stays : Stays s s'

-- one was taken from the budget, or the limit was reached
pub record TakesOne {B : Type 0} (opens : Bool) (s s' : Status B) : Type 0 where
  pub budget : s'.budget ≡ less_one s.budget
  pub errors : s'.errors ≡ s.errors
  pub opened : OnTrue opens (s'.tally ≡ record { opened = counted (s.tally.opened + 1); longest = s.tally.longest; entered = s.tally.entered })
  pub same : OnFalse opens (s'.tally ≡ s.tally)
  pub environment : s'.environment ≡ s.environment
  pub path : s'.path ≡ s.path
  pub stays : Stays s s'

-- a pattern begins, which the path holds where it held none, and it is counted
pub record StartsPattern {B : Type 0} (begun : Bool) (p : Pattern) (s s' : Status B) : Type 0 where
  pub path : s'.path ≡ inner s.path p
  pub put : OnTrue begun (s.path ≡ [])
  pub kept : OnFalse begun (s'.path ≡ s.path)
  pub tally : s'.tally ≡ record { opened = s.tally.opened; longest = counted (max s.tally.longest (length s'.path)); entered = counted (s.tally.entered + 1) }
  pub elsewhere : Elsewhere s s'

-- A pattern was entered, and counted with the path that it ends. Where the answer is no Ok, it was not.
pub record Enters {E B : Type 0} (result : Result (Unit {0}) E) (p : Pattern) (s s' : Status B) : Type 0 where
  pub entered : OnOk result (s'.path ≡ s.path ++ p ∷ [])
  pub alloc_failed : OnErr result (s'.path ≡ s.path)
  pub tally : OnOk result (s'.tally ≡ record { opened = s.tally.opened; longest = counted (max s.tally.longest (length (s.path ++ p ∷ []))); entered = counted (s.tally.entered + 1) })
  pub still : OnErr result (s'.tally ≡ s.tally)
  pub elsewhere : Elsewhere s s'

-- A pattern was entered, counted with the path that it ends, and left.
pub record Visits {B : Type 0} (s s' : Status B) : Type 0 where
  pub path : s'.path ≡ s.path
  pub tally : s'.tally ≡ record { opened = s.tally.opened; longest = counted (max s.tally.longest (length s.path + 1)); entered = counted (s.tally.entered + 1) }
  pub elsewhere : Elsewhere s s'

-- the last pattern was taken off the path, if it was put there
pub record Leaves {B : Type 0} (put : Bool) (s s' : Status B) : Type 0 where
  pub left : OnTrue put (s'.path ≡ front s.path)
  pub kept : OnFalse put (s'.path ≡ s.path)
  pub tally : s'.tally ≡ s.tally
  pub elsewhere : Elsewhere s s'

-- no pattern is being written any more, and variables are looked up among these arguments
pub record Rests {B : Type 0} (args : Map (Value Text)) (s s' : Status B) : Type 0 where
  pub path : s'.path ≡ []
  pub environment : s'.environment ≡ application args
  pub errors : s'.errors ≡ s.errors
  pub budget : s'.budget ≡ s.budget
  pub tally : s'.tally ≡ s.tally
  pub stays : Stays s s'
