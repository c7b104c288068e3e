-- Whole values of operands, their remainders, and the ranges that they lie in.
use Rattle.std.specs.Prelude.{◌≡◌, ◌≢◌, ℕ, Bool, true, false, ◌+◌, ◌*◌, ◌/◌, ◌%◌, ◌^◌, ◌<◌, ◌==◌, ◌&&◌, ◌||◌, List, [], ◌∷◌, map, Option, Some, None}
use Rattle.std.specs.List.{list_any}
use Rattle.std.specs.Option.{option_map}
use Rattle.std.specs.declared.num.NonZeroU64.{NonZeroU64}
use Rattle.std.proofs.Common.{arith, refl, ap, ◌∙◌, eq-eqb}
use Rattle.std.proofs.Math.Arith.{mod-mul}
use Rattle.std.proofs.lemmas.Bool.Decides.{nat_tests}
use Rattle.fluent_plural_rules.specs.declared.rule_texts.tree.Range.{Range}
use Rattle.fluent_plural_rules.specs.RuleMeaning.{remainder, is_within, is_in}
use Rattle.fluent_plural_rules.specs.Inside.RuleReading.{number_view}

-- the remainder of a whole number of units
pub whole_remainder : (x d : ℕ) → 0 < d → x * 10 ^ 18 % (d * 10 ^ 18) ≡ x % d * 10 ^ 18
whole_remainder x d some =
    let split : x * 10 ^ 18 % (d * 10 ^ 18) ≡ x * 10 ^ 18 / 10 ^ 18 % d * 10 ^ 18 + x * 10 ^ 18 % 10 ^ 18 = mod-mul (x * 10 ^ 18) (omega arith) (omega arith) in
    let whole : x * 10 ^ 18 / 10 ^ 18 ≡ x = omega arith in
    let none : x * 10 ^ 18 % 10 ^ 18 ≡ 0 = omega arith in
    let same : x * 10 ^ 18 / 10 ^ 18 % d ≡ x % d = ap (λ y. y % d) whole in
    omega (arith, split, none, same)

-- a whole value
pub in_whole : (x : ℕ) (ranges : List Range) → is_in (x * 10 ^ 18) ranges ≡ list_any (is_within x) ranges
in_whole x ranges =
    let test : (x * 10 ^ 18 % 10 ^ 18 == 0) ≡ true = eq-eqb (x * 10 ^ 18 % 10 ^ 18) 0 (omega arith) in
    let whole : x * 10 ^ 18 / 10 ^ 18 ≡ x = omega arith in
    ap (λ b. b && list_any (is_within (x * 10 ^ 18 / 10 ^ 18)) ranges) test ∙ ap (λ y. list_any (is_within y) ranges) whole

-- a value with a fraction
pub in_fraction : (u : ℕ) (ranges : List Range) → u % 10 ^ 18 ≢ 0 → is_in u ranges ≡ false
in_fraction u ranges ne =
    let test : (u % 10 ^ 18 == 0) ≡ false = grind (arith, nat_tests) in
    ap (λ b. b && list_any (is_within (u / 10 ^ 18)) ranges) test

-- a remainder keeps the fraction
pub keeps_fraction : (d : Option NonZeroU64) (u : ℕ) → u % 10 ^ 18 ≢ 0 → remainder (option_map number_view d) u % 10 ^ 18 ≢ 0
keeps_fraction None u ne = ne
keeps_fraction (Some d) u ne =
    let some : 0 < d.value = d.ok in
    let split : u % (d.value * 10 ^ 18) ≡ u / 10 ^ 18 % d.value * 10 ^ 18 + u % 10 ^ 18 = mod-mul u (omega arith) (omega arith) in
    λ e. ne (omega (arith, split, e))

-- the same of views
pub any_seen : {A B : Type 0} (p : B → Bool) (h : A → B) (xs : List A) → list_any (λ x. p (h x)) xs ≡ list_any p (map h xs)
any_seen p h [] = refl
any_seen p h (x ∷ xs) = ap (λ b. p (h x) || b) (any_seen p h xs)
