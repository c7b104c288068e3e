-- The two meanings of a pattern: by substitution, without a limit, and with a budget, which is fluent-bundle's limit on placeables.
use Rattle.std.specs.Prelude.{ℕ, zero, suc, ◌+◌, List, [], ◌∷◌, ◌++◌, length, Bool, if◌then◌else◌}
use Rattle.fluent_ast.specs.Tree.{Text, Pattern}
use Rattle.fluent_ast.specs.Fallback.{in_braces}
use Rattle.fluent_semantics.specs.Errors.{Error, resolver_error, too_many_placeables}
use Rattle.fluent_semantics.specs.Bundle.{Bundle, stored}
use Rattle.fluent_semantics.specs.Walk.{Environment, Steps, deep}

-- U+2068 and U+2069, where they are wanted
abbrev pub first_mark : Bool → Text
first_mark marked = if marked then 0xe2 ∷ 0x81 ∷ 0xa8 ∷ [] else []

abbrev pub last_mark : Bool → Text
last_mark marked = if marked then 0xe2 ∷ 0x81 ∷ 0xa9 ∷ [] else []

-- ---- BY SUBSTITUTION: a value, the errors in order, and how many placeables were opened

pub record Outcome (A : Type 0) : Type 0 where
  pub value : A
  pub errors : List Error
  pub opened : ℕ

abbrev pub joined : {A B : Type 0} → Outcome A → Outcome B → Outcome B
joined a b = record { value = b.value; errors = a.errors ++ b.errors; opened = a.opened + b.opened }

abbrev pub by_substitution : Steps
by_substitution = record {
  M = Outcome;
  give = λ x. record { value = x; errors = []; opened = 0 };
  fails = λ e x. record { value = x; errors = resolver_error e ∷ []; opened = 0 };
  bind = λ m f. joined m (f m.value);
  element = λ m rest. record { value = m.value ++ rest.value; errors = m.errors ++ rest.errors; opened = m.opened + rest.opened };
  opens = λ marked fallback m. record { value = first_mark marked ++ (m.value ++ last_mark marked); errors = m.errors; opened = m.opened + 1 };
  enters = λ length m. m;
}

-- ---- WITH A BUDGET: how many placeables may still be opened, or that the limit was reached, once one more was tried

pub data Budget : Type 0 where
  left : ℕ → Budget
  limit_reached : Budget

-- how many may still be opened
abbrev pub at_most : Budget → ℕ
at_most (left n) = n
at_most limit_reached = 0

pub record Ran (A : Type 0) : Type 0 where
  pub value : A
  pub errors : List Error
  pub budget : Budget

abbrev pub after_errors : {B : Type 0} → List Error → Ran B → Ran B
after_errors es r = record { value = r.value; errors = es ++ r.errors; budget = r.budget }

abbrev pub after_text : Ran Text → Ran Text → Ran Text
after_text m r = record { value = m.value ++ r.value; errors = m.errors ++ r.errors; budget = r.budget }

-- a placeable that was open ends with its fallback in braces where the limit was reached in it
abbrev pub ending : Text → Budget → Text
ending fallback (left n) = []
ending fallback limit_reached = in_braces fallback

abbrev pub closed : Bool → Text → Ran Text → Ran Text
closed marked fallback r = record { value = first_mark marked ++ (r.value ++ (ending fallback r.budget ++ last_mark marked)); errors = r.errors; budget = r.budget }

abbrev pub at_limit : Ran Text
at_limit = record { value = []; errors = resolver_error too_many_placeables ∷ []; budget = limit_reached }

abbrev pub nothing_more : Ran Text
nothing_more = record { value = []; errors = []; budget = limit_reached }

-- at 0 the limit is reached; else one less is left for the expression
abbrev pub opening : Bool → Text → (Budget → Ran Text) → Budget → Ran Text
opening marked fallback m (left zero) = at_limit
opening marked fallback m (left (suc n)) = closed marked fallback (m (left n))
opening marked fallback m limit_reached = nothing_more

-- a pattern gives nothing more once the limit was reached
abbrev pub unless_limit_reached : (Budget → Ran Text) → (Budget → Ran Text) → Budget → Ran Text
unless_limit_reached m rest (left n) = let r = m (left n) in after_text r (rest r.budget)
unless_limit_reached m rest limit_reached = nothing_more

abbrev pub within_budget : Steps
within_budget = record {
  M = λ A. Budget → Ran A;
  give = λ x b. record { value = x; errors = []; budget = b };
  fails = λ e x b. record { value = x; errors = resolver_error e ∷ []; budget = b };
  bind = λ m f b. let r = m b in after_errors r.errors (f r.value r.budget);
  element = unless_limit_reached;
  opens = opening;
  enters = λ length m b. m b;
}

-- ---- both, of a pattern

-- with references followed n deep
unfoldable pub substituted : {C : Type 0} → Bundle C → ℕ → Environment C → List Pattern → Pattern → Outcome Text
substituted = deep by_substitution

-- Each reference followed without a cycle adds another stored pattern to the path, so that this depth settles the meaning.
abbrev pub settling : {C : Type 0} → Bundle C → ℕ
settling b = suc (length (stored b))

abbrev pub meaning : {C : Type 0} → Bundle C → Environment C → List Pattern → Pattern → Outcome Text
meaning b = substituted b (settling b)

unfoldable pub ran : {C : Type 0} → Bundle C → ℕ → Environment C → List Pattern → Pattern → Budget → Ran Text
ran = deep within_budget

-- each reference stands in a placeable, so none is deeper than the budget
abbrev pub depth_of : Budget → ℕ
depth_of (left n) = suc n
depth_of limit_reached = 0

abbrev pub run : {C : Type 0} → Bundle C → Environment C → List Pattern → Pattern → Budget → Ran Text
run b env path p budget = ran b (depth_of budget) env path p budget
