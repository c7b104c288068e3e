-- What is ahead of a run: its events, each part given what follows it. A part writes as it goes, or its text is the value of another part and is kept.
use Rattle.std.specs.Prelude.{◌≡◌, ℕ, zero, suc, List, [], ◌∷◌, ◌++◌, Bool, true, false, Option, None, Some}
use Rattle.fluent_ast.specs.Tree.{Text, Pattern, Expression, Inline, Arguments}
use Rattle.fluent_ast.specs.Fallback.{fallback_of}
use Rattle.fluent_semantics.specs.Errors.{resolver_error, too_many_placeables}
use Rattle.fluent_semantics.specs.Value.{Value}
use Rattle.fluent_semantics.specs.Arguments.{Map}
use Rattle.fluent_semantics.specs.Bundle.{Bundle}
use Rattle.fluent_semantics.specs.Walk.{Environment, Steps, is_on, go, expression, called, deep, whole}
use Rattle.fluent_semantics.specs.Meaning.{first_mark, last_mark, Budget, left, limit_reached, at_most, ending, closed}
use Rattle.fluent_semantics.specs.Events.{Event, told, opened, reached_limit, entered, writes, text_in, errors_in, spent, opened_in, longest_in, entered_in}
use Rattle.fluent_semantics.specs.Work.{Worked, with_work, work}

-- positional and named values, where a run ends with some
abbrev pub Values : Type 0 → Type 0
Values C = Option (List (Value C) × Map (Value C))

-- the events to come, how many parts are still to begin, and the values at the end
pub record Rest (C : Type 0) : Type 0 where
  pub events : List Event
  pub parts : ℕ
  pub values : Values C

abbrev pub after : {C : Type 0} → List Event → Rest C → Rest C
after es r = record { events = es ++ r.events; parts = r.parts; values = r.values }

abbrev pub begins : {C : Type 0} → Rest C → Rest C
begins r = record { events = r.events; parts = suc r.parts; values = r.values }

-- what follows a value
abbrev pub Next : Type 0 → Type 0 → Type 0
Next C A = A → Budget → Rest C

-- writing, or keeping the text
abbrev pub Ahead : Type 0 → Type 0 → Type 0
Ahead C A = Bool → Next C A → Budget → Rest C

abbrev pub put : {C : Type 0} → Bool → Text → Next C Text → Budget → Rest C
put true t k b = after (writes t) (k [] b)
put false t k b = k t b

abbrev pub element_ahead : {C : Type 0} → Ahead C Text → Ahead C Text → Ahead C Text
element_ahead m rest w k (left n) = begins (m w (λ t. put w t (λ u. rest w (λ v. k (u ++ v)))) (left n))
element_ahead m rest w k limit_reached = k [] limit_reached

abbrev pub opens_ahead : {C : Type 0} → Bool → Text → Ahead C Text → Ahead C Text
opens_ahead marked fallback m w k (left zero) = after (reached_limit ∷ told (resolver_error too_many_placeables) ∷ []) (k [] limit_reached)
opens_ahead marked fallback m w k (left (suc n)) =
    after (opened ∷ []) (begins (put w (first_mark marked) (λ u. m w (λ t. put w t (λ v c. put w (ending fallback c ++ last_mark marked) (λ x. k (u ++ (v ++ x))) c))) (left n)))
opens_ahead marked fallback m w k limit_reached = k [] limit_reached

-- an expression, and its fallback where the limit is reached after it
abbrev pub closed_ahead : {C : Type 0} → Text → Ahead C Text → Ahead C Text
closed_ahead fallback m w k b = m w (λ t. put w t (λ u c. put w (ending fallback c) (λ v. k (u ++ v)) c)) b

abbrev pub ahead : Type 0 → Steps
ahead C = record {
  M = Ahead C;
  give = λ x w k b. k x b;
  fails = λ e x w k b. after (told (resolver_error e) ∷ []) (k x b);
  bind = λ m f w k b. begins (m false (λ x. f x w k) b);
  element = element_ahead;
  opens = opens_ahead;
  enters = λ n m w k b. after (entered n ∷ []) (begins (m w k b));
}

-- from a budget: each reference stands in a placeable, so none is deeper than that
unfoldable pub comes : {C : Type 0} → Bundle C → Environment C → List Pattern → Pattern → Ahead C Text
comes {C} b env path p w k budget = deep (ahead C) b (suc (at_most budget)) env path p w k budget

-- nothing follows: what is left of the text is written
abbrev pub finished : {C : Type 0} → Next C Text
finished t b = record { events = writes t; parts = 0; values = None }

-- all events of a part that writes
abbrev pub events_of : {C : Type 0} → Ahead C Text → Budget → List Event
events_of m b = (m true finished b).events

-- nothing follows the values
abbrev pub handed : {C : Type 0} → Next C (List (Value C) × Map (Value C))
handed v b = record { events = []; parts = 0; values = Some v }

-- ---- the laws

-- What is ahead of a pattern is one walk over it, with the same ahead of those that it refers to.
abbrev pub ComesByItself : Type 0 → Type 0
ComesByItself C = (b : Bundle C) (env : Environment C) (path : List Pattern) (p : Pattern) (w : Bool) (k : Next C Text) (budget : Budget) → comes b env path p w k budget ≡ whole (ahead C) b (comes b) env path p w k budget

-- These events are those of a run from this budget: its text, its errors and its counts, and what is left.
pub record IsRun (w : Worked Text) (b : Budget) (es : List Event) : Type 0 where
  pub text : text_in es ≡ w.ran.value
  pub errors : errors_in es ≡ w.ran.errors
  pub budget : spent es b ≡ w.ran.budget
  pub opened : opened_in es ≡ w.opened
  pub longest : longest_in es ≡ w.longest
  pub entered : entered_in es ≡ w.entered

-- The same of values, for which nothing is written.
pub record IsValued {C : Type 0} (w : Worked (List (Value C) × Map (Value C))) (b : Budget) (r : Rest C) : Type 0 where
  pub values : r.values ≡ Some w.ran.value
  pub text : text_in r.events ≡ []
  pub errors : errors_in r.events ≡ w.ran.errors
  pub budget : spent r.events b ≡ w.ran.budget
  pub opened : opened_in r.events ≡ w.opened
  pub longest : longest_in r.events ≡ w.longest
  pub entered : entered_in r.events ≡ w.entered

abbrev pub closed_work : Text → (Budget → Worked Text) → Budget → Worked Text
closed_work fallback m b = let w = m b in record w { ran = closed false fallback w.ran }

-- All events of a pattern, of one that a reference leads to, of a placeable's expression and of arguments are those of their runs.
pub record EventsAreTheRun (C : Type 0) : Type 0 where
  pub pattern : (b : Bundle C) (env : Environment C) (path : List Pattern) (p : Pattern) (budget : Budget) →
      IsRun (whole with_work b (work b) env path p budget) budget (events_of (whole (ahead C) b (comes b) env path p) budget)
  pub reference : (b : Bundle C) (env : Environment C) (path : List Pattern) (p : Pattern) (x : Inline) (budget : Budget) →
      IsRun (go with_work b (work b) env (is_on path p) env path x p budget) budget (events_of (go (ahead C) b (comes b) env (is_on path p) env path x p) budget)
  pub placeable : (b : Bundle C) (env : Environment C) (path : List Pattern) (e : Expression) (budget : Budget) →
      IsRun (closed_work (fallback_of e) (expression with_work b (work b) env path e) budget) budget (events_of (closed_ahead (fallback_of e) (expression (ahead C) b (comes b) env path e)) budget)
  pub arguments : (b : Bundle C) (env : Environment C) (path : List Pattern) (a : Arguments) (budget : Budget) →
      IsValued (called with_work b (work b) env path a budget) budget (called (ahead C) b (comes b) env path a false handed budget)
