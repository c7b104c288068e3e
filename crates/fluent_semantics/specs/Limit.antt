-- What stands when the limit is reached.
use Rattle.std.specs.Prelude.{ℕ, zero, suc, List, [], ◌∷◌, ◌++◌, Bool}
use Rattle.fluent_ast.specs.Tree.{Text, Pattern}
use Rattle.fluent_ast.specs.Fallback.{in_braces}
use Rattle.fluent_semantics.specs.Errors.{Error, resolver_error}
use Rattle.fluent_semantics.specs.Bundle.{Bundle}
use Rattle.fluent_semantics.specs.Walk.{Environment, Steps, deep}
use Rattle.fluent_semantics.specs.Meaning.{first_mark, last_mark}

-- A walk that stops at the limit. It passes, with what is left of the budget, or it stops with the text at the limit,
-- the errors before it, and what will close the opened placeables that the text goes into, innermost first.
pub data Until (A : Type 0) : Type 0 where
  passed : A → List Error → ℕ → Until A
  stopped : Text → List Error → Text → Until A

abbrev pub later : {A : Type 0} → List Error → Until A → Until A
later es (passed x fs n) = passed x (es ++ fs) n
later es (stopped t fs closing) = stopped t (es ++ fs) closing

-- where the limit is reached in an argument or a selector leaves no text
abbrev pub then : {A B : Type 0} → Until A → (A → ℕ → Until B) → Until B
then (passed x es n) f = later es (f x n)
then (stopped t es closing) f = stopped [] es []

-- the whole texts of the parts before the one that reaches the limit stand before its own
abbrev pub after : Text → Until Text → Until Text
after t (passed u fs n) = passed (t ++ u) fs n
after t (stopped u fs closing) = stopped (t ++ u) fs closing

abbrev pub then_rest : Until Text → (ℕ → Until Text) → Until Text
then_rest (passed t es n) rest = later es (after t (rest n))
then_rest (stopped t es closing) rest = stopped t es closing

abbrev pub in_marks : Bool → Text → Until Text → Until Text
in_marks marked fallback (passed t es n) = passed (first_mark marked ++ (t ++ last_mark marked)) es n
in_marks marked fallback (stopped t es closing) = stopped (first_mark marked ++ t) es (closing ++ (in_braces fallback ++ last_mark marked))

-- nothing of the placeable that reaches the limit
abbrev pub opening_until : Bool → Text → (ℕ → Until Text) → ℕ → Until Text
opening_until marked fallback m zero = stopped [] [] []
opening_until marked fallback m (suc n) = in_marks marked fallback (m n)

abbrev pub until_limit : Steps
until_limit = record {
  M = λ A. ℕ → Until A;
  give = λ x n. passed x [] n;
  fails = λ e x n. passed x (resolver_error e ∷ []) n;
  bind = λ m f n. then (m n) f;
  element = λ m rest n. then_rest (m n) rest;
  opens = opening_until;
  enters = λ k m. m;
}

unfoldable pub until : {C : Type 0} → Bundle C → ℕ → Environment C → List Pattern → Pattern → ℕ → Until Text
until = deep until_limit

-- a pattern with a budget of n, up to the limit
abbrev pub up_to_limit : {C : Type 0} → Bundle C → Environment C → List Pattern → Pattern → ℕ → Until Text
up_to_limit b env path p n = until b (suc n) env path p n
