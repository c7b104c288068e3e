use Rattle.std.proofs.Common.{◌≡◌, ℕ, zero, suc, pos, negsuc, neg_ℤ, ◌*◌, ◌/◌, ◌^◌, refl, ap, ◌∙◌}
use Rattle.std.specs.Prelude.{int_div}
use Rattle.std.proofs.Math.Nat.{mul-div_cancel}
use Rattle.fluent_intl.specs.Decimal.{KeepsWholes}
use Rattle.fluent_intl.proofs.DecimalPlaces.{ten_power_pos}
use Rattle.fluent_intl.proofs.decimal.laws.whole_numbers_are_kept.Goals as goal

int_div_neg : (n : ℕ) → int_div (neg_ℤ (pos n)) (pos (10 ^ 18)) ≡ neg_ℤ (pos (n / 10 ^ 18))
int_div_neg zero = refl
int_div_neg (suc n) = refl

kept : KeepsWholes
kept (pos n) = ap pos (mul-div_cancel n (ten_power_pos 18))
kept (negsuc n) = int_div_neg (suc n * 10 ^ 18) ∙ ap (λ m. neg_ℤ (pos m)) (mul-div_cancel (suc n) (ten_power_pos 18))

pub returns : goal.returns
returns c = kept
