-- A number that is shown with a minimum of fraction digits has one set of operands.
use Rattle.std.specs.Prelude.{◌≡◌, ◌≢◌, ℕ, ℤ, ◌-◌, ◌*◌, ◌/◌, ◌%◌, ◌^◌, ◌<◌, ◌≤◌, ◌⊎◌, ◌==◌, true, not, max, Option, None, Some, unsigned_abs, refl}
use Rattle.std.specs.List.{range_with_len}
use Rattle.std.proofs.Common.{arith, ap, sym, ◌∙◌, inl, inr, get_or}
use Rattle.std.proofs.Math.Nat.{mul-div_cancel, mul-mod_left, mod-eq-sub-div-mul, div-mul-le_self}
use Rattle.std.proofs.lemmas.Bool.{cases_lt}
use Rattle.std.proofs.lemmas.Bool.Decides.{nat_tests}
use Rattle.std.proofs.lemmas.List.FromFn.{get_or-range_with_len}
use Rattle.std.proofs.lemmas.List.Sums.{prefix_len_passes}
use Rattle.fluent_intl.specs.Decimal.{significant_places}
use Rattle.fluent_intl.specs.declared.operands.PluralOperands.{PluralOperands}
use Rattle.fluent_intl.specs.Operands.{IsOperands, least_places, operands_of}
use Rattle.fluent_intl.proofs.DecimalPlaces.{ten_power_pos, fewer_zeros, one_place_fewer, significant_is, significant_whole, significant_le}

-- digits that write a fraction are its first ones
digits_are : (digits k fraction : ℕ) → digits * 10 ^ k ≡ fraction → fraction / 10 ^ k ≡ digits
digits_are digits k fraction e = ap (λ n. n / 10 ^ k) (sym e) ∙ mul-div_cancel digits (ten_power_pos k)

ends_there : (digits k fraction : ℕ) → digits * 10 ^ k ≡ fraction → fraction % 10 ^ k ≡ 0
ends_there digits k fraction e = ap (λ n. n % 10 ^ k) (sym e) ∙ mul-mod_left digits (10 ^ k)

whole_again : (fraction k : ℕ) → fraction % 10 ^ k ≡ 0 → fraction / 10 ^ k * 10 ^ k ≡ fraction
whole_again fraction k e = omega (arith, e, mod-eq-sub-div-mul fraction (10 ^ k), div-mul-le_self fraction (10 ^ k))

unfits : (f k : ℕ) → not (f % 10 ^ (18 - k) == 0) ≡ true → f % 10 ^ (18 - k) ≢ 0
unfits f k e = grind (arith, nat_tests)

-- fewer digits than the significant ones don't hold the fraction
fewer_unfit : (f k : ℕ) → k < significant_places f → k < 18 → f % 10 ^ (18 - k) ≢ 0
unfolding significant_places
fewer_unfit f k lt below =
    let at : get_or (range_with_len 0 18) k 0 ≡ k = omega (arith, get_or-range_with_len 0 18 k 0 below) in
    unfits f k (sym (ap (λ n. not (f % 10 ^ (18 - n) == 0)) at) ∙ prefix_len_passes (λ n. not (f % 10 ^ (18 - n) == 0)) (range_with_len 0 18) k 0 lt)

-- the last of the significant digits is not 0
significant_last : (f : ℕ) → 0 < significant_places f → f / 10 ^ (18 - significant_places f) % 10 ≢ 0
significant_last f some zero_digit =
    let few = significant_le f in
    let fewer = one_place_fewer f (significant_places f) (f / 10 ^ (18 - significant_places f)) some few refl (significant_whole f) zero_digit in
    fewer_unfit f (significant_places f - 1) (omega (arith, some)) (omega (arith, some, few)) fewer.2

last_or_none : (f : ℕ) → (significant_places f ≡ 0) ⊎ (f / 10 ^ (18 - significant_places f) % 10 ≢ 0)
last_or_none f = elim (cases_lt 0 (significant_places f)) [ inl some ↦ inr (significant_last f some) | inr none ↦ inl (omega arith) ]

least_places_le : (minimum : Option ℕ) → least_places minimum ≤ 18
least_places_le None = omega arith
least_places_le (Some minimum) = omega arith

pub operands_are : (z : ℤ) (minimum : Option ℕ) → IsOperands z minimum (operands_of z minimum)
unfolding operands_of
operands_are z minimum =
    let few = significant_le (unsigned_abs z % 10 ^ 18) in
    let ends = significant_whole (unsigned_abs z % 10 ^ 18) in
    let bound : max (significant_places (unsigned_abs z % 10 ^ 18)) (least_places minimum) ≤ 18 = omega (arith, few, least_places_le minimum) in
    record {
      absolute = refl;
      whole = refl;
      trimmed = (few, whole_again (unsigned_abs z % 10 ^ 18) _ ends);
      no_zero_at_end = last_or_none (unsigned_abs z % 10 ^ 18);
      count_shown = refl;
      shown = (bound, whole_again (unsigned_abs z % 10 ^ 18) _ (fewer_zeros (unsigned_abs z % 10 ^ 18) _ _ (omega arith) ends));
    }

pub operands_only : (z : ℤ) (minimum : Option ℕ) (o : PluralOperands) → IsOperands z minimum o → o ≡ operands_of z minimum
unfolding operands_of
operands_only z minimum o h =
    let t_is = digits_are o.t (18 - o.w) (unsigned_abs z % 10 ^ 18) h.trimmed.1 in
    let w_is : significant_places (unsigned_abs z % 10 ^ 18) ≡ o.w = significant_is (unsigned_abs z % 10 ^ 18) o.w h.trimmed.0 (ends_there o.t (18 - o.w) _ h.trimmed.1) (λ some zero_digit. elim h.no_zero_at_end [ inl none ↦ absurd (omega (arith, some, none)) | inr last ↦ last (sym (ap (λ n. n % 10) t_is) ∙ zero_digit) ]) in
    let v_is : o.v ≡ max (significant_places (unsigned_abs z % 10 ^ 18)) (least_places minimum) = h.count_shown ∙ ap (λ w. max w (least_places minimum)) (sym w_is) in
    λ i. record {
      n = h.absolute i;
      i = h.whole i;
      v = v_is i;
      w = sym w_is i;
      f = (sym (digits_are o.f (18 - o.v) (unsigned_abs z % 10 ^ 18) h.shown.1) ∙ ap (λ v. unsigned_abs z % 10 ^ 18 / 10 ^ (18 - v)) v_is) i;
      t = (sym t_is ∙ ap (λ w. unsigned_abs z % 10 ^ 18 / 10 ^ (18 - w)) (sym w_is)) i;
    }
