-- The digits of a whole number, one by one from the end.
use Rattle.std.specs.Prelude.{◌≡◌, ℕ, ◌+◌, ◌/◌, ◌%◌, ◌^◌, ◌<◌, ◌≤◌, List, [], ◌∷◌, ◌++◌, length}
use Rattle.std.specs.Fmt.{decimal}
use Rattle.std.proofs.Common.{ap, ◌∙◌, append_assoc, length-append}
use Rattle.std.proofs.lemmas.Fmt.{decimal_step, decimal_digit}

-- the last digit moves to the text after it
pub decimal_step_onto : (n : ℕ) (after : List ℕ) → 10 ≤ n → n < 2 ^ 64 → decimal n ++ after ≡ decimal (n / 10) ++ (48 + n % 10) ∷ after
decimal_step_onto n after low small = ap (λ ds. ds ++ after) (decimal_step n low small) ∙ append_assoc (decimal (n / 10)) ((48 + n % 10) ∷ []) after

pub length-decimal_step : (n : ℕ) → 10 ≤ n → n < 2 ^ 64 → length (decimal n) ≡ length (decimal (n / 10)) + 1
length-decimal_step n low small = ap length (decimal_step n low small) ∙ length-append (decimal (n / 10)) ((48 + n % 10) ∷ [])

pub decimal_digit_onto : (n : ℕ) (after : List ℕ) → n < 10 → decimal n ++ after ≡ (48 + n) ∷ after
decimal_digit_onto n after small = ap (λ ds. ds ++ after) (decimal_digit n small)
