-- What a call carries while it resolves, by content.
use Rattle.std.specs.Prelude.{ℕ, List, [], ◌++◌, map, Bool, true, false, Option, None, Some}
use Rattle.std.specs.Option.{option_map}
use Rattle.std.specs.Borrow.{Bor, MutBor}
use Rattle.std.specs.declared.vec.Vec.{Vec}
use Rattle.std.proofs.Common.{Global}
use Rattle.fluent_ast.specs.Tree.{Text}
use Rattle.fluent_ast.specs.Tree as t
use Rattle.fluent_semantics.specs.Errors.{Error}
use Rattle.fluent_semantics.specs.Value.{Value}
use Rattle.fluent_semantics.specs.Arguments.{Map}
use Rattle.fluent_semantics.specs.Bundle.{Bundle, Entry, Function}
use Rattle.fluent_semantics.specs.Walk.{Environment, application, local}
use Rattle.fluent_semantics.specs.Meaning.{Budget, left, limit_reached}
use Rattle.fluent_bundle_entries.specs.EntryView.{ids}
use Rattle.fluent_bundle_entries.specs.IdNumbers.{numbers, table}
use Rattle.fluent_resolver_state.specs.Locals.{locals_view}
use Rattle.fluent_path.specs.Contents.{counted, on_path}
use Rattle.fluent_bundle_entries.specs.ErrorView.{error_view}
use Rattle.fluent_values.specs.View.{named}
use Rattle.fluent_values.specs.declared.args.FluentArgs.{FluentArgs}
use Rattle.fluent_bundle_entries.specs.declared.errors.FluentError.{FluentError}
use Rattle.fluent_bundle_entries.specs.declared.ids.Ids.{Ids}
use Rattle.fluent_resolver_state.specs.declared.environment.Environment as environments
use Rattle.fluent_resolver_state.specs.declared.environment.Environment.TheVariants as environment
use Rattle.fluent_resolver_state.specs.declared.budget.Budget as budgets
use Rattle.fluent_resolver_state.specs.declared.budget.Budget.TheVariants as budget
use Rattle.fluent_resolver_state.specs.declared.budget.Counts.{Counts}
use Rattle.fluent_resolver_state.specs.declared.state.State.{State}

-- no arguments are an empty map
abbrev pub arguments_view : {C : Type 0} → (C → Text) → Option (Bor (FluentArgs C)) → Map (Value Text)
arguments_view content None = []
arguments_view content (Some a) = named content a.now

abbrev pub environment_view : {C : Type 0} → (C → Text) → environments.Environment C → Environment Text
environment_view content (environment.Application a) = application (arguments_view content a)
environment_view content (environment.Local l) = local (locals_view content l)

-- whether variables are looked up among the application's arguments
abbrev pub is_outside : {C : Type 0} → environments.Environment C → Bool
is_outside (environment.Application a) = true
is_outside (environment.Local l) = false

-- a list of errors, by content
abbrev pub reported : List FluentError → List Error
reported es = map error_view es

-- the list with these at its end, if there is one
abbrev pub with_errors : Option (List Error) → List Error → Option (List Error)
with_errors None es = None
with_errors (Some l) es = Some (l ++ es)

-- how many more placeables may be opened
abbrev pub budget_view : budgets.Budget → Budget
budget_view (budget.Left n) = left n
budget_view budget.LimitReached = limit_reached

-- ---- what was counted

-- placeables opened, the longest path, patterns entered
pub record Tally : Type 0 where
  pub opened : ℕ
  pub longest : ℕ
  pub entered : ℕ

abbrev pub tally : Counts → Tally
tally c = record { opened = counted c.opened; longest = counted c.longest; entered = counted c.entered }

-- ---- the state

-- a bundle with what these ids mean
abbrev pub with_ids : Bundle Text → Map (Entry Text) → Bundle Text
with_ids b m = record b { ids = m }

-- the numbers of the ids, and the contents that are stored
pub record Stored : Type 0 where
  pub numbers : Text → Option ℕ
  pub table : List t.Pattern

abbrev pub stored_in : {F : Type 0} → Ids F → Stored
stored_in m = record { numbers = numbers m; table = table m }

-- Its bundle, and which borrow that is; its environment, the contents on its path, what stands in its list of errors and which borrow that is, its budget, and what it counted.
pub record Status (B : Type 0) : Type 0 where
  pub bundle : Bundle Text
  pub borrow : Bor B
  pub environment : Environment Text
  pub path : List t.Pattern
  pub errors : Option (List Error)
  pub list : Option ℕ
  pub budget : Budget
  pub tally : Tally
  pub stored : Stored
  -- whether the bundle changes no text
  pub is_plain : Bool

-- What the state of a call holds.
pub record StateParts (C F B : Type 0) : Type 0 where
  pub errors : Option (MutBor (Vec FluentError Global))
  pub bundle : Bor B
  pub ids : Ids F
  pub environment : environments.Environment C
  pub path : List t.Pattern
  pub budget : budgets.Budget
  pub counts : Counts

unfoldable pub state_parts : {C F B : Type 0} → State C F B → StateParts C F B
state_parts s = record {
  errors = s.errors;
  bundle = s.bundle;
  ids = s.ids.now;
  environment = s.environment;
  path = on_path (table s.ids.now) s.path;
  budget = s.budget;
  counts = s.counts;
}

abbrev pub status_of : {C F B : Type 0} → (B → Bundle Text) → (B → Bool) → (F → Function Text) → (C → Text) → StateParts C F B → Status B
status_of meant is_plain answer content of =
    record {
      bundle = with_ids (meant of.bundle.now) (ids answer of.ids);
      borrow = of.bundle;
      environment = environment_view content of.environment;
      path = of.path;
      errors = option_map (λ e. reported e.now.items) of.errors;
      list = option_map (λ e. e.ghost_name) of.errors;
      budget = budget_view of.budget;
      tally = tally of.counts;
      stored = stored_in of.ids;
      is_plain = is_plain of.bundle.now;
    }

-- of a call while it resolves
abbrev pub state : {C F B : Type 0} → (B → Bundle Text) → (B → Bool) → (F → Function Text) → (C → Text) → State C F B → Status B
state meant is_plain answer content s = status_of meant is_plain answer content (state_parts s)
