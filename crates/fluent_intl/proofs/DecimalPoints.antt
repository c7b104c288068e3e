-- Where the point of a number stands.
use Rattle.std.specs.Prelude.{◌≡◌, ℕ, ◌+◌, ◌-◌, ◌*◌, ◌^◌, ◌<◌, ◌≤◌, ◌==◌, List, [], ◌∷◌, ◌++◌, length, take, drop, Option, None, Some, true, false, cond, refl, nat_lt, Bool}
use Rattle.std.specs.List.{position, position_or_len}
use Rattle.std.specs.Char.{digit_value}
use Rattle.std.specs.Str.Parse.{AllDigits, digits_value}
use Rattle.std.proofs.Common.{arith, rules, length-append, append_assoc, sym, ap, ◌∙◌, subst, inl, inr}
use Rattle.std.proofs.lemmas.Str.Parse.{digit_from_value}
use Rattle.std.proofs.lemmas.List.{take_at, drop_at}
use Rattle.std.proofs.lemmas.List.Sums.{split_at_first, passes_at_first}
use Rattle.std.proofs.lemmas.Int.Digits.{digits_value-lt}
use Rattle.std.proofs.lemmas.Nat.{pow-add}
use Rattle.std.proofs.Math.Nat.{one-le-pow, mul-lt-mul_of_pos_right, pow-le-pow_right}
use Rattle.fluent_intl.specs.Decimal.{ReadsUnsigned}

abbrev pub is_point : ℕ → Bool
is_point b = b == 46

not_point : (d : ℕ) → digit_value d < 10 → is_point d ≡ false
not_point d h = let r = digit_from_value d h in grind (arith, rules)

length_all : (ds : List ℕ) → AllDigits 10 ds → position_or_len is_point ds ≡ length ds
length_all [] h = refl
length_all (d ∷ ds) h = rw (not_point d h.0) (omega (arith, length_all ds h.1))

length_at : (ds fs : List ℕ) → AllDigits 10 ds → position_or_len is_point (ds ++ 46 ∷ fs) ≡ length ds
length_at [] fs h = refl
length_at (d ∷ ds) fs h = rw (not_point d h.0) (omega (arith, length_at ds fs h.1))

pub no_point : (ds : List ℕ) → AllDigits 10 ds → position is_point ds ≡ None
no_point ds h = rw (length_all ds h) (search rules)

pub point_at : (ds fs : List ℕ) → AllDigits 10 ds → position is_point (ds ++ 46 ∷ fs) ≡ Some (length ds)
point_at ds fs h = rw (length_at ds fs h) (let l : length ds < length (ds ++ 46 ∷ fs) = omega (arith, length-append ds (46 ∷ fs)) in search rules)

pub none_some : {A : Type 0} (x : A) → None ≡ Some x → ⊥
none_some x e = cc

pub some_same : (m n : ℕ) → Some m ≡ Some n → m ≡ n
some_same m n e = cc

-- a text without a point that is no numeral of 64 bits is no number
pub refuse_whole : (t : List ℕ) → position is_point t ≡ None → (AllDigits 10 t × (digits_value 10 t < 2 ^ 64) → ⊥) → (n : ℕ) (places : Option ℕ) → ReadsUnsigned t n places → ⊥
refuse_whole t e other n places h =
    elim h [
      | inl w ↦ other (w.0, w.2)
      | inr w ↦ none_some _ (sym e ∙ ap (position is_point) w.2 ∙ point_at w.0 w.1 w.3)
    ]

pub prefix_of : (t before after : List ℕ) (at : ℕ) → length before ≡ at → t ≡ before ++ 46 ∷ after → take at t ≡ before
prefix_of t before after at l e = ap (take at) e ∙ take_at before (46 ∷ after) at l

pub back_of : (t before after : List ℕ) (at : ℕ) → length before ≡ at → t ≡ before ++ 46 ∷ after → drop (at + 1) t ≡ after
back_of t before after at l e = ap (drop (at + 1)) (e ∙ sym (append_assoc before (46 ∷ []) after)) ∙ drop_at (before ++ 46 ∷ []) after (at + 1) (omega (arith, length-append before (46 ∷ []), l))

-- a text with its first point at a place is a number only as the parts around it say
pub refuse_pointed : (t : List ℕ) (at : ℕ) → position is_point t ≡ Some at
    → (AllDigits 10 (take at t) → AllDigits 10 (drop (at + 1) t) → 0 < length (take at t) + length (drop (at + 1) t) → digits_value 10 (take at t) < 2 ^ 64 → length (drop (at + 1) t) ≤ 18 → ⊥)
    → (n : ℕ) (places : Option ℕ) → ReadsUnsigned t n places → ⊥
refuse_pointed t at e other n places h =
    elim h [
      | inl w ↦ none_some _ (sym (no_point t w.0) ∙ e)
      | inr w ↦
          let l : length w.0 ≡ at = some_same _ _ (sym (sym e ∙ ap (position is_point) w.2 ∙ point_at w.0 w.1 w.3)) in
          let f : w.0 ≡ take at t = sym (prefix_of t w.0 w.1 at l w.2) in
          let b : w.1 ≡ drop (at + 1) t = sym (back_of t w.0 w.1 at l w.2) in
          other (subst (AllDigits 10) f w.3) (subst (AllDigits 10) b w.4)
          (subst (λ x. 0 < length (take at t) + length x) b (subst (λ x. 0 < length x + length w.1) f w.5))
          (subst (λ x. digits_value 10 x < 2 ^ 64) f w.6) (subst (λ x. length x ≤ 18) b w.7)
    ]

picked : (b : Bool) (m n : ℕ) → cond b (Some m) None ≡ Some n → (b ≡ true) × (m ≡ n)
picked true m n e = (refl, some_same m n e)
picked false m n e = absurd (none_some n e)

below : (m n : ℕ) → nat_lt m n ≡ true → m < n
below m n e = search rules

point_is : (b : ℕ) → is_point b ≡ true → b ≡ 46
point_is b e = search rules

-- the place of the point, and the text around it
cut_at : (t : List ℕ) (at : ℕ) → position is_point t ≡ Some at → (at < length t) × (t ≡ take at t ++ 46 ∷ drop (at + 1) t)
cut_at t at e =
    let w = picked (nat_lt (position_or_len is_point t) (length t)) (position_or_len is_point t) at e in
    let lt : position_or_len is_point t < length t = below _ _ w.0 in
    let P : ℕ → Type 0 = λ n. (n < length t) × (t ≡ take n t ++ 46 ∷ drop (n + 1) t) in
    subst P w.1 (lt, split_at_first is_point t 0 lt ∙ ap (λ b. take (position_or_len is_point t) t ++ b ∷ drop (position_or_len is_point t + 1) t) (point_is _ (passes_at_first is_point t 0 lt)))

pub small_part : (ds : List ℕ) → AllDigits 10 ds → length ds ≤ 18 → digits_value 10 ds < 2 ^ 64
small_part ds all le =
    let p : 10 ^ length ds ≤ 10 ^ 18 = pow-le-pow_right (let z : 0 < 10 = omega arith in z) le in
    omega (arith, digits_value-lt 10 ds all, p)

pub part_bound : (whole part k : ℕ) → whole < 2 ^ 64 → part < 10 ^ k → k ≤ 18 → whole * 10 ^ 18 + part * 10 ^ (18 - k) < 2 ^ 64 * 10 ^ 18
part_bound whole part k w p le =
    let whole_one : 10 ^ k * 10 ^ (18 - k) ≡ 10 ^ 18 = sym (pow-add 10 k (18 - k)) ∙ ap (λ n. 10 ^ n) (let s : k + (18 - k) ≡ 18 = omega arith in s) in
    let less : part * 10 ^ (18 - k) < 10 ^ k * 10 ^ (18 - k) = mul-lt-mul_of_pos_right p (one-le-pow (18 - k) 10 (omega arith)) in
    omega (arith, whole_one, less, w)

pub accept_pointed : (t rest : List ℕ) (at whole part scale : ℕ) → rest ≡ drop (at + 1) t → position is_point t ≡ Some at
    → (AllDigits 10 (take at t) × (digits_value 10 (take at t) < 2 ^ 64)) × (whole ≡ digits_value 10 (take at t))
    → (AllDigits 10 rest × (digits_value 10 rest < 2 ^ 64)) × (part ≡ digits_value 10 rest)
    → scale ≡ 10 ^ (18 - length rest) → length rest ≤ 18 → 0 < length (take at t) + length rest
    → ReadsUnsigned t (whole * 10 ^ 18 + part * scale) (Some (length rest)) × (whole * 10 ^ 18 + part * scale < 2 ^ 64 * 10 ^ 18)
accept_pointed t rest at whole part scale is e w p s le some =
    let cut : (at < length t) × (t ≡ take at t ++ 46 ∷ drop (at + 1) t) = cut_at t at e in
    let same : whole * 10 ^ 18 + part * scale ≡ digits_value 10 (take at t) * 10 ^ 18 + digits_value 10 rest * 10 ^ (18 - length rest) = cc in
    let bound : digits_value 10 (take at t) * 10 ^ 18 + digits_value 10 rest * 10 ^ (18 - length rest) < 2 ^ 64 * 10 ^ 18 = part_bound (digits_value 10 (take at t)) (digits_value 10 rest) (length rest) w.0.1 (digits_value-lt 10 rest p.0.0) le in (
      inr (take at t, rest, cut.1 ∙ ap (λ x. take at t ++ 46 ∷ x) (sym is), w.0.0, p.0.0, some, w.0.1, le, same, refl),
      subst (λ n. n < 2 ^ 64 * 10 ^ 18) (sym same) bound,
    )
