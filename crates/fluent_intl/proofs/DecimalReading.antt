-- A text is one number at most.
use Rattle.std.specs.Prelude.{◌≡◌, ℕ, ◌+◌, ◌-◌, ◌*◌, ◌^◌, List, length, Option, Some, refl}
use Rattle.std.specs.List.{position}
use Rattle.std.specs.Str.Parse.{digits_value, starts_with_minus, without_leading_sign}
use Rattle.std.proofs.Common.{sym, ap, ◌∙◌, inl, inr}
use Rattle.fluent_intl.specs.Decimal.{OneReading, ReadsUnsigned, signed}
use Rattle.fluent_intl.proofs.DecimalPoints.{is_point, no_point, point_at, none_some, some_same, prefix_of, back_of}

same_unsigned : (t : List ℕ) (m n : ℕ) (p q : Option ℕ) → ReadsUnsigned t m p → ReadsUnsigned t n q → (m ≡ n) × (p ≡ q)
same_unsigned t m n p q h k =
    elim h [
      | inl v ↦ elim k [
        | inl w ↦ (v.3 ∙ sym w.3, v.4 ∙ sym w.4)
        | inr w ↦ absurd (none_some _ (sym (no_point t v.0) ∙ ap (position is_point) w.2 ∙ point_at w.0 w.1 w.3))
      ]
      | inr v ↦ elim k [
        | inl w ↦ absurd (none_some _ (sym (no_point t w.0) ∙ ap (position is_point) v.2 ∙ point_at v.0 v.1 v.3))
        | inr w ↦
            let at : length v.0 ≡ length w.0 = some_same _ _ (sym (ap (position is_point) v.2 ∙ point_at v.0 v.1 v.3) ∙ ap (position is_point) w.2 ∙ point_at w.0 w.1 w.3) in
            let prefix : v.0 ≡ w.0 = sym (prefix_of t v.0 v.1 (length w.0) at v.2) ∙ prefix_of t w.0 w.1 (length w.0) refl w.2 in
            let back : v.1 ≡ w.1 = sym (back_of t v.0 v.1 (length w.0) at v.2) ∙ back_of t w.0 w.1 (length w.0) refl w.2 in (
              v.8 ∙ ap (λ x. digits_value 10 x * 10 ^ 18 + digits_value 10 v.1 * 10 ^ (18 - length v.1)) prefix ∙ ap (λ x. digits_value 10 w.0 * 10 ^ 18 + digits_value 10 x * 10 ^ (18 - length x)) back ∙ sym w.8,
              v.9 ∙ ap (λ x. Some (length x)) back ∙ sym w.9,
            )
      ]
    ]

pub one_reading : OneReading
one_reading text y z at_y at_z h k =
    let same = same_unsigned (without_leading_sign text) h.0 k.0 at_y at_z h.1 k.1 in
    (h.2 ∙ ap (signed (starts_with_minus text)) same.0 ∙ sym k.2, same.1)
