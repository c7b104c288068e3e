-- Runs of digits, and values that are too large.
use Rattle.std.specs.Prelude.{◌≡◌, ℕ, ◌+◌, ◌^◌, ◌<◌, suc, true, false, ◌==◌, [], ◌∷◌, take, drop, Some, None, nat_lt}
use Rattle.std.specs.Int.{IsInRange}
use Rattle.std.specs.Str.Parse.{AllDigits, digits_value}
use Rattle.std.proofs.Common.{refl, subst, arith, inl, inr}
use Rattle.std.proofs.lemmas.Bool.{cases_Bool}
use Rattle.std.proofs.lemmas.Bool.Decides.{nat_tests}
use Rattle.std.proofs.lemmas.Str.{digit_value_digit}
use Rattle.std.specs.Char.{is_ascii_digit, digit_value}
use Rattle.fluent_text.specs.Parser as parser
use Rattle.fluent_text.specs.Parser.{Text, Read, first, run_len, run}
use Rattle.fluent_text.specs.Lexical.{is_digit}
use Rattle.fluent_plural_rules.specs.RuleGrammar as spec
use Rattle.fluent_plural_rules.specs.RuleGrammar.{is_blank}

digit : (c : ℕ) → is_ascii_digit c ≡ true → digit_value c < 10
digit c e =
    let within : IsInRange 48 57 c = grind (arith, nat_tests) in
    omega (arith, digit_value_digit c within)

run_of_digits : (s : Text) → AllDigits 10 (take (run_len is_digit s) s)
run_of_digits [] = tt
run_of_digits (c ∷ cs) =
    elim (cases_Bool (is_ascii_digit c)) [
      | inl pass ↦ let e : 1 + run_len is_digit cs ≡ suc (run_len is_digit cs) = omega arith in rw (pass, e) (digit c pass, run_of_digits cs)
      | inr stop ↦ rw stop tt
    ]

-- what a reading holds are digits
AreDigits : Read Text → Type 0
AreDigits None = Unit {0}
AreDigits (Some p) = AllDigits 10 p.0

run1_of_digits : (s : Text) → AreDigits (parser.run1 is_digit s)
unfolding AreDigits parser.run1
run1_of_digits s =
    elim (cases_Bool (run_len is_digit s == 0)) [
      | inl none ↦ rw none tt
      | inr some ↦ rw some (run_of_digits s)
    ]

pub digits_are : (s ds rest : Text) → spec.digits s ≡ Some (ds, rest) → AllDigits 10 ds
unfolding AreDigits spec.digits
digits_are s ds rest e = subst AreDigits e (run1_of_digits (drop (run_len is_blank s) s))

-- digits whose number is too large are no value
pub too_large : (s ds rest : Text) → spec.digits s ≡ Some (ds, rest) → (AllDigits 10 ds × (digits_value 10 ds < 2 ^ 64) → ⊥) → spec.value s ≡ None
unfolding spec.value
too_large s ds rest e large =
    let test : nat_lt (digits_value 10 ds) (2 ^ 64) ≡ false =
    elim (cases_Bool (nat_lt (digits_value 10 ds) (2 ^ 64))) [
      | inl below ↦ absurd (large (digits_are s ds rest e, grind (arith, nat_tests)))
      | inr above ↦ above
    ]
    in rw (e, test) refl
