-- A number has one text.
use Rattle.std.specs.Prelude.{◌≡◌, ◌≢◌, ℕ, zero, suc, ℤ, ◌+◌, ◌-◌, ◌*◌, ◌/◌, ◌%◌, ◌^◌, ◌<◌, ◌≤◌, ◌<ℤ◌, ◌==◌, Bool, true, false, List, [], ◌∷◌, ◌++◌, length, map, min, max, Option, None, Some, pos, negsuc, if◌then◌else◌, int_lt, unsigned_abs, IsTrue, ◌↔◌, MatchOption, refl}
use Rattle.std.specs.Char.{digit_value}
use Rattle.std.specs.Fmt.{decimal}
use Rattle.std.specs.Int.{IsInRange}
use Rattle.std.specs.List.{range_with_len}
use Rattle.std.specs.Str.Parse.{AllDigits, digits_value, digits_value_after, starts_with_minus, without_leading_sign}
use Rattle.std.proofs.Common.{arith, rules, get_or, sym, ap, ◌∙◌, subst, inl, inr}
use Rattle.std.proofs.Math.Nat.{mul-div_cancel, mod-eq_of_lt, mul-lt-mul_of_pos_right}
use Rattle.std.proofs.lemmas.Bool.{cases_lt, cases_eq, false≢true}
use Rattle.std.proofs.lemmas.Bool.Decides.{nat_tests}
use Rattle.std.proofs.lemmas.Fmt.{decimal_is_IsNumeral, decimal_digit, first_decimal, decimal-digits_value}
use Rattle.std.proofs.lemmas.Int.Digits.{digits_value-lt}
use Rattle.std.proofs.lemmas.List.{append-nil, get_or_append_left}
use Rattle.std.proofs.lemmas.List.FromFn.{length-map-range_with_len}
use Rattle.std.proofs.lemmas.Nat.{div-mul-add, mod-mul-add, mod_below, pow-add, same_from_place, div-add-mod'}
use Rattle.std.proofs.lemmas.Str.{digit_value_digit}
use Rattle.std.proofs.lemmas.Str.Parse.{digit_at, digit_from_value, numerals_by_value, tells_digits}
use Rattle.fluent_intl.specs.Decimal.{IsPlain, IsText, OneText, ReadsUnsigned, decimal_text, place_digit, point_text, signed, significant_places, text_places}
use Rattle.fluent_intl.proofs.DecimalLength.{whole_below}
use Rattle.fluent_intl.proofs.DecimalPlaces.{ten_power_pos, places_digits, places_value, significant_whole, significant_le, fewer_zeros}

-- two texts of as many digits are one where their values are one
same_after : (a b : List ℕ) (m n : ℕ) → AllDigits 10 a → AllDigits 10 b → length a ≡ length b → digits_value_after 10 m a ≡ digits_value_after 10 n b → (m ≡ n) × (a ≡ b)
same_after [] [] m n all_a all_b l e = (e, refl)
same_after [] (d ∷ b) m n all_a all_b l e = absurd (omega arith)
same_after (c ∷ a) [] m n all_a all_b l e = absurd (omega arith)
same_after (c ∷ a) (d ∷ b) m n all_a all_b l e =
    let rest = same_after a b (m * 10 + digit_value c) (n * 10 + digit_value d) all_a.1 all_b.1 (omega arith) e in
    let both = same_from_place m (digit_value c) n (digit_value d) 10 all_a.0 all_b.0 rest.0 in
    let first : c ≡ d = omega (arith, both.1, digit_value_digit c (digit_from_value c all_a.0), digit_value_digit d (digit_from_value d all_b.0)) in
    (both.0, ap (λ x. x ∷ a) first ∙ ap (λ x. d ∷ x) rest.1)

same_digits : (a b : List ℕ) → AllDigits 10 a → AllDigits 10 b → length a ≡ length b → digits_value 10 a ≡ digits_value 10 b → a ≡ b
same_digits a b all_a all_b l e = (same_after a b 0 0 all_a all_b l e).1

-- digits without a 0 at the start that could be left out are those of their number
plain_whole : (ds : List ℕ) → AllDigits 10 ds → 0 < length ds → (get_or ds 0 0 ≡ 48 → IsInRange 48 57 (get_or ds 1 0) → ⊥) → digits_value 10 ds < 2 ^ 64 → decimal (digits_value 10 ds) ≡ ds
plain_whole ds all some plain small =
    decimal-digits_value (numerals_by_value (AllDigits 10) tells_digits) ds all some (λ e. elim (cases_lt 1 (length ds)) [
      | inl more ↦ absurd (plain e (digit_at ds 1 all more))
      | inr one ↦ omega arith
    ]) small

-- a part of at most 18 digits is less than one
part_small : (p k : ℕ) → p < 10 ^ k → k ≤ 18 → p * 10 ^ (18 - k) < 10 ^ 18
part_small p k small le =
    let one : 10 ^ k * 10 ^ (18 - k) ≡ 10 ^ 18 = sym (pow-add 10 k (18 - k)) ∙ ap (λ n. 10 ^ n) (let s : k + (18 - k) ≡ 18 = omega arith in s) in
    let less : p * 10 ^ (18 - k) < 10 ^ k * 10 ^ (18 - k) = mul-lt-mul_of_pos_right small (ten_power_pos (18 - k)) in
    omega (arith, one, less)

-- the digits after a point are those of their part
plain_places : (ds : List ℕ) → AllDigits 10 ds → length ds ≤ 18 → ds ≡ map (place_digit (digits_value 10 ds * 10 ^ (18 - length ds))) (range_with_len 1 (length ds))
plain_places ds all le =
    let f = digits_value 10 ds * 10 ^ (18 - length ds) in
    let value : f / 10 ^ (18 - length ds) ≡ digits_value 10 ds = mul-div_cancel (digits_value 10 ds) (ten_power_pos (18 - length ds)) in
    let small : f < 10 ^ 18 = part_small (digits_value 10 ds) (length ds) (digits_value-lt 10 ds all) le in
    same_digits ds (map (place_digit f) (range_with_len 1 (length ds))) all (places_digits f (length ds)) (sym (length-map-range_with_len (place_digit f) 1 (length ds)))
    (sym (places_value f (length ds) small le ∙ value))

prefix_plain : (before after : List ℕ) → IsPlain (before ++ 46 ∷ after) → (0 < length before) × (get_or before 0 0 ≡ 48 → IsInRange 48 57 (get_or before 1 0) → ⊥)
prefix_plain [] after h = absurd (omega (arith, h.0.0))
prefix_plain (c ∷ []) after h = (omega arith, λ e r. omega (arith, r.0))
prefix_plain (c ∷ d ∷ ds) after h = (omega arith, h.1)

alone_is : (t : List ℕ) → AllDigits 10 t → 0 < length t → digits_value 10 t < 2 ^ 64 → IsPlain t
    → t ≡ decimal (digits_value 10 t * 10 ^ 18 / 10 ^ 18) ++ point_text (digits_value 10 t * 10 ^ 18 % 10 ^ 18) None
alone_is t all some small plain =
    let value : digits_value 10 t * 10 ^ 18 / 10 ^ 18 ≡ digits_value 10 t = mul-div_cancel (digits_value 10 t) (ten_power_pos 18) in
    sym (plain_whole t all some plain.1 small) ∙ ap decimal (sym value) ∙ sym (append-nil (decimal (digits_value 10 t * 10 ^ 18 / 10 ^ 18)))

pointed_is : (before after : List ℕ) (n : ℕ) → AllDigits 10 before → AllDigits 10 after → digits_value 10 before < 2 ^ 64 → length after ≤ 18
    → n ≡ digits_value 10 before * 10 ^ 18 + digits_value 10 after * 10 ^ (18 - length after) → IsPlain (before ++ 46 ∷ after)
    → before ++ 46 ∷ after ≡ decimal (n / 10 ^ 18) ++ point_text (n % 10 ^ 18) (Some (length after))
pointed_is before after n all_before all_after small le is plain =
    let less = part_small (digits_value 10 after) (length after) (digits_value-lt 10 after all_after) le in
    let whole : n / 10 ^ 18 ≡ digits_value 10 before = ap (λ m. m / 10 ^ 18) is ∙ div-mul-add (digits_value 10 before) (10 ^ 18) (digits_value 10 after * 10 ^ (18 - length after)) less in
    let part : n % 10 ^ 18 ≡ digits_value 10 after * 10 ^ (18 - length after) = ap (λ m. m % 10 ^ 18) is ∙ mod-mul-add (digits_value 10 before) (10 ^ 18) (digits_value 10 after * 10 ^ (18 - length after)) less in
    let prefix = prefix_plain before after plain in
    let first : before ≡ decimal (n / 10 ^ 18) = sym (plain_whole before all_before prefix.0 prefix.1 small) ∙ ap decimal (sym whole) in
    let second : after ≡ map (place_digit (n % 10 ^ 18)) (range_with_len 1 (length after)) = plain_places after all_after le ∙ ap (λ f. map (place_digit f) (range_with_len 1 (length after))) (sym part) in
    ap (λ x. x ++ 46 ∷ after) first ∙ ap (λ x. decimal (n / 10 ^ 18) ++ 46 ∷ x) second

-- a plain text without a sign is the digits of its size
unsigned_is : (t : List ℕ) (n : ℕ) (places : Option ℕ) → ReadsUnsigned t n places → IsPlain t → t ≡ decimal (n / 10 ^ 18) ++ point_text (n % 10 ^ 18) places
unsigned_is t n places h plain =
    let P : ℕ → Option ℕ → Type 0 = λ m q. t ≡ decimal (m / 10 ^ 18) ++ point_text (m % 10 ^ 18) q in
    elim h [
      | inl w ↦ subst (λ m. P m places) (sym w.3) (subst (λ q. P (digits_value 10 t * 10 ^ 18) q) (sym w.4) (alone_is t w.0 w.1 w.2 plain))
      | inr w ↦ subst (λ q. P n q) (sym w.9) (w.2 ∙ pointed_is w.0 w.1 n w.3 w.4 w.6 w.7 w.8 (subst IsPlain w.2 plain))
    ]

-- a text without a plus is its minus and the rest
with_sign : (t : List ℕ) → (get_or t 0 0 ≡ 43 → ⊥) → t ≡ (if starts_with_minus t then 45 ∷ [] else []) ++ without_leading_sign t
with_sign [] h = refl
with_sign (c ∷ t) h =
    elim (cases_eq c 45) [
      | inl e ↦ let P : ℕ → Type 0 = λ d. d ∷ t ≡ (if starts_with_minus (d ∷ t) then 45 ∷ [] else []) ++ without_leading_sign (d ∷ t) in subst P (sym e) refl
      | inr other ↦ other_sign c t (no_byte c 45 other) (no_byte c 43 h)
    ]
  where
    no_byte : (c d : ℕ) → (c ≡ d → ⊥) → (c == d) ≡ false
    no_byte c d h = grind (arith, nat_tests)

    other_sign : (c : ℕ) (t : List ℕ) → (c == 45) ≡ false → (c == 43) ≡ false → c ∷ t ≡ (if starts_with_minus (c ∷ t) then 45 ∷ [] else []) ++ without_leading_sign (c ∷ t)
    other_sign c t a b = rw a (rw b refl)

size_of_signed : (b : Bool) (n : ℕ) → unsigned_abs (signed b n) ≡ n
size_of_signed true zero = refl
size_of_signed true (suc n) = refl
size_of_signed false n = refl

below_zero : (z : ℤ) → z <ℤ pos 0 → true ≡ int_lt z (pos 0)
below_zero z h = search rules

not_below_zero : (n : ℕ) → false ≡ int_lt (pos n) (pos 0)
not_below_zero n = search rules

minus_is : (b : Bool) (z : ℤ) (n : ℕ) → z ≡ signed b n → (b ≡ true → z <ℤ pos 0) → b ≡ int_lt z (pos 0)
minus_is true z n e h = below_zero z (h refl)
minus_is false z n e h = not_below_zero n ∙ ap (λ y. int_lt y (pos 0)) (sym e)

-- the text of a number is the one that is written out
pub text_is : (z : ℤ) (minimum : Option ℕ) (t : List ℕ) → IsText z minimum t → t ≡ decimal_text z minimum
unfolding decimal_text
text_is z minimum t h =
    let r = h.reads in
    let places = text_places (unsigned_abs z % 10 ^ 18) minimum in
    let size : unsigned_abs z ≡ r.0 = ap unsigned_abs r.2 ∙ size_of_signed (starts_with_minus t) r.0 in
    let body : without_leading_sign t ≡ decimal (r.0 / 10 ^ 18) ++ point_text (r.0 % 10 ^ 18) places = unsigned_is (without_leading_sign t) r.0 places r.1 h.plain in
    with_sign t h.no_plus
    ∙ ap (λ b. (if b then 45 ∷ [] else []) ++ without_leading_sign t) (minus_is (starts_with_minus t) z r.0 r.2 h.minus_below_zero)
    ∙ ap (λ x. (if int_lt z (pos 0) then 45 ∷ [] else []) ++ x) (body ∙ ap (λ n. decimal (n / 10 ^ 18) ++ point_text (n % 10 ^ 18) places) (sym size))

-- the places of the text hold the whole fraction
places_fit : (f : ℕ) (minimum : Option ℕ) → f < 10 ^ 18 → MatchOption (text_places f minimum) (f ≡ 0) (λ k. (k ≤ 18) × (f % 10 ^ (18 - k) ≡ 0))
places_fit f None small = without f (significant_places f) small (significant_le f) (significant_whole f)
  where
    without : (f w : ℕ) → f < 10 ^ 18 → w ≤ 18 → f % 10 ^ (18 - w) ≡ 0 → MatchOption (if w == 0 then None else Some w) (f ≡ 0) (λ k. (k ≤ 18) × (f % 10 ^ (18 - k) ≡ 0))
    without f zero small le e = sym (mod-eq_of_lt small) ∙ e
    without f (suc w) small le e =
        let some : (suc w == 0) ≡ false = grind (arith, nat_tests) in
        let P : Bool → Type 0 = λ b. MatchOption (if b then None else Some (suc w)) (f ≡ 0) (λ k. (k ≤ 18) × (f % 10 ^ (18 - k) ≡ 0)) in
        subst P (sym some) (le, e)
places_fit f (Some m) small =
    let w = significant_places f in
    (omega (arith, significant_le f), fewer_zeros f (18 - max w (min m 18)) (18 - w) (omega arith) (significant_whole f))

-- the digits of a size read as that size
unsigned_reads : (n : ℕ) (places : Option ℕ) → n / 10 ^ 18 < 2 ^ 64 → MatchOption places (n % 10 ^ 18 ≡ 0) (λ k. (k ≤ 18) × (n % 10 ^ 18 % 10 ^ (18 - k) ≡ 0))
    → ReadsUnsigned (decimal (n / 10 ^ 18) ++ point_text (n % 10 ^ 18) places) n places
unsigned_reads n None small whole =
    let w = n / 10 ^ 18 in
    let numeral = decimal_is_IsNumeral (n / 10 ^ 18) small in
    let P : List ℕ → Type 0 = λ t. ReadsUnsigned t n None in
    subst P (sym (append-nil (decimal (n / 10 ^ 18))))
    (inl (numeral.0.1, numeral.0.0, omega (arith, numeral.1, small), omega (arith, numeral.1, whole, div-add-mod' n (10 ^ 18)), refl))
unsigned_reads n (Some k) small fits =
    let f = n % 10 ^ 18 in
    let numeral = decimal_is_IsNumeral (n / 10 ^ 18) small in
    let ds = map (place_digit (n % 10 ^ 18)) (range_with_len 1 k) in
    let long : length (map (place_digit (n % 10 ^ 18)) (range_with_len 1 k)) ≡ k = length-map-range_with_len (place_digit (n % 10 ^ 18)) 1 k in
    let below : n % 10 ^ 18 < 10 ^ 18 = mod_below n (10 ^ 18) (omega arith) in
    let value = places_value (n % 10 ^ 18) k below fits.0 in
    let size : n ≡ digits_value 10 (decimal (n / 10 ^ 18)) * 10 ^ 18 + digits_value 10 (map (place_digit (n % 10 ^ 18)) (range_with_len 1 k)) * 10 ^ (18 - k) = parts_of n k (digits_value 10 (decimal (n / 10 ^ 18))) (digits_value 10 (map (place_digit (n % 10 ^ 18)) (range_with_len 1 k))) numeral.1 value fits.1 in
    inr (
      decimal (n / 10 ^ 18),
      map (place_digit (n % 10 ^ 18)) (range_with_len 1 k),
      refl,
      numeral.0.1,
      places_digits (n % 10 ^ 18) k,
      omega (arith, numeral.0.0),
      omega (arith, numeral.1, small),
      omega (arith, long, fits.0),
      size ∙ ap (λ j. digits_value 10 (decimal (n / 10 ^ 18)) * 10 ^ 18 + digits_value 10 (map (place_digit (n % 10 ^ 18)) (range_with_len 1 k)) * 10 ^ (18 - j)) (sym long),
      ap Some (sym long),
    )
  where
    parts_of : (n k v p : ℕ) → v ≡ n / 10 ^ 18 → p ≡ n % 10 ^ 18 / 10 ^ (18 - k) → n % 10 ^ 18 % 10 ^ (18 - k) ≡ 0 → n ≡ v * 10 ^ 18 + p * 10 ^ (18 - k)
    parts_of n k v p whole part exact =
        let d : p * 10 ^ (18 - k) ≡ n % 10 ^ 18 = ap (λ x. x * 10 ^ (18 - k)) part ∙ omega (arith, div-add-mod' (n % 10 ^ 18) (10 ^ (18 - k)), exact) in
        omega (arith, d, whole, div-add-mod' n (10 ^ 18))

digit_first : (w : ℕ) (p : List ℕ) → w < 2 ^ 64 → IsInRange 48 57 (get_or (decimal w ++ p) 0 0)
digit_first w p small =
    let numeral = decimal_is_IsNumeral w small in
    subst (IsInRange 48 57) (sym (get_or_append_left (decimal w) p 0 0 numeral.0.0)) (digit_at (decimal w) 0 numeral.0.1 numeral.0.0)

no_digit_after : (f : ℕ) (places : Option ℕ) → IsInRange 48 57 (get_or (48 ∷ point_text f places) 1 0) → ⊥
no_digit_after f None h = omega (arith, h.0)
no_digit_after f (Some k) h = omega (arith, h.0)

digits_plain : (w f : ℕ) (places : Option ℕ) → w < 2 ^ 64 → IsPlain (decimal w ++ point_text f places)
digits_plain w f places small = (
  digit_first w (point_text f places) small,
  λ zero_first more. elim (cases_lt 0 w) [
    | inl some ↦ omega (arith, first_decimal w some small, zero_first, get_or_append_left (decimal w) (point_text f places) 0 0 (decimal_is_IsNumeral w small).0.0)
    | inr none ↦
        let e : decimal w ≡ 48 ∷ [] = ap decimal (let z : w ≡ 0 = omega arith in z) ∙ decimal_digit 0 (omega arith) in
        let P : List ℕ → Type 0 = λ x. IsInRange 48 57 (get_or (x ++ point_text f places) 1 0) in
        no_digit_after f places (subst P e more)
  ],
)

-- where a digit stands at the start there is no sign
unsigned_text : (n : ℕ) (minimum : Option ℕ) (t : List ℕ) → ReadsUnsigned t n (text_places (n % 10 ^ 18) minimum) → IsPlain t → IsText (pos n) minimum t
unsigned_text n minimum t h plain =
    let a : (get_or t 0 0 == 45) ≡ false = other (get_or t 0 0) 45 (omega arith) plain.0 in
    let b : (get_or t 0 0 == 43) ≡ false = other (get_or t 0 0) 43 (omega arith) plain.0 in
    let rest : without_leading_sign t ≡ t = rw a (rw b refl) in
    let P : List ℕ → Type 0 = λ u. ReadsUnsigned u n (text_places (n % 10 ^ 18) minimum) in
    record {
      reads = (n, subst P (sym rest) h, ap (λ m. signed m n) (sym a));
      plain = subst IsPlain (sym rest) plain;
      no_plus = λ e. omega (arith, plain.0.0, e);
      minus_below_zero = λ e. absurd (false≢true (sym a ∙ e));
    }
  where
    other : (c d : ℕ) → d < 48 → IsInRange 48 57 c → (c == d) ≡ false
    other c d low r = let e : c ≢ d = λ e. omega (arith, r.0, low, e) in grind (arith, nat_tests)

minus_text : (n : ℕ) (minimum : Option ℕ) (t : List ℕ) → ReadsUnsigned t (suc n) (text_places (suc n % 10 ^ 18) minimum) → IsPlain t → IsText (negsuc n) minimum (45 ∷ t)
minus_text n minimum t h plain = record {
  reads = (suc n, h, refl);
  plain = plain;
  no_plus = λ e. omega (arith, e);
  minus_below_zero = λ _. search rules;
}

-- the text that is written out is the text of its number
pub is_text : (z : ℤ) (minimum : Option ℕ) → unsigned_abs z / 10 ^ 18 < 2 ^ 64 → IsText z minimum (decimal_text z minimum)
unfolding decimal_text
is_text (pos n) minimum small =
    let places = text_places (n % 10 ^ 18) minimum in
    let body = decimal (n / 10 ^ 18) ++ point_text (n % 10 ^ 18) places in
    let fits = places_fit (n % 10 ^ 18) minimum (mod_below n (10 ^ 18) (omega arith)) in
    let P : Bool → Type 0 = λ b. IsText (pos n) minimum ((if b then 45 ∷ [] else []) ++ (decimal (n / 10 ^ 18) ++ point_text (n % 10 ^ 18) (text_places (n % 10 ^ 18) minimum))) in
    subst P (not_below_zero n)
    (unsigned_text n minimum (decimal (n / 10 ^ 18) ++ point_text (n % 10 ^ 18) (text_places (n % 10 ^ 18) minimum)) (unsigned_reads n (text_places (n % 10 ^ 18) minimum) small fits) (digits_plain (n / 10 ^ 18) (n % 10 ^ 18) (text_places (n % 10 ^ 18) minimum) small))
is_text (negsuc n) minimum small =
    let fits = places_fit (suc n % 10 ^ 18) minimum (mod_below (suc n) (10 ^ 18) (omega arith)) in
    minus_text n minimum (decimal (suc n / 10 ^ 18) ++ point_text (suc n % 10 ^ 18) (text_places (suc n % 10 ^ 18) minimum)) (unsigned_reads (suc n) (text_places (suc n % 10 ^ 18) minimum) small fits) (digits_plain (suc n / 10 ^ 18) (suc n % 10 ^ 18) (text_places (suc n % 10 ^ 18) minimum) small)

pub one_text : OneText
one_text z minimum small = (is_text z minimum (whole_below (unsigned_abs z) small), text_is z minimum)

sign_is : (b : Bool) (z : ℤ) → (IsTrue b ↔ (z <ℤ pos 0)) → b ≡ int_lt z (pos 0)
sign_is true z h = below_zero z (h.0 refl)
sign_is false (pos n) h = not_below_zero n
sign_is false (negsuc n) h = absurd (false≢true (h.1 (search rules)))

-- the steps of writing a number from its end
pub written : (z : ℤ) (minimum : Option ℕ) (fraction whole : ℕ) (minus : Bool) (places : Option ℕ) (none point number all : List ℕ)
    → fraction ≡ unsigned_abs z % 10 ^ 18 → whole ≡ unsigned_abs z / 10 ^ 18 → (IsTrue minus ↔ (z <ℤ pos 0)) → places ≡ text_places fraction minimum
    → none ≡ [] → point ≡ point_text fraction places ++ none → number ≡ decimal whole ++ point → all ≡ (if minus then 45 ∷ [] else []) ++ number
    → all ≡ decimal_text z minimum
unfolding decimal_text
written z minimum fraction whole minus places none point number all f w m p e a b c =
    let last : point ≡ point_text (unsigned_abs z % 10 ^ 18) (text_places (unsigned_abs z % 10 ^ 18) minimum) =
    a ∙ ap (λ x. point_text fraction places ++ x) e ∙ append-nil (point_text fraction places) ∙ ap (point_text fraction) p ∙ ap (λ x. point_text x (text_places x minimum)) f in
    c ∙ ap (λ x. (if x then 45 ∷ [] else []) ++ number) (sign_is minus z m)
    ∙ ap (λ x. (if int_lt z (pos 0) then 45 ∷ [] else []) ++ x) (b ∙ ap (λ x. decimal x ++ point) w ∙ ap (λ x. decimal (unsigned_abs z / 10 ^ 18) ++ x) last)
