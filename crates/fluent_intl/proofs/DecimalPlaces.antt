-- The digits after the point: how many there are, which they are, and their value.
use Rattle.std.specs.Prelude.{◌≡◌, ◌≢◌, ℕ, zero, suc, ◌+◌, ◌-◌, ◌*◌, ◌/◌, ◌%◌, ◌^◌, ◌<◌, ◌≤◌, ◌==◌, List, [], ◌∷◌, ◌++◌, map, Bool, true, false, not}
use Rattle.std.specs.Char.{digit_value}
use Rattle.std.specs.List.{position_or_len, range_with_len}
use Rattle.std.specs.Str.Parse.{AllDigits, digits_value}
use Rattle.std.proofs.Common.{arith, append_assoc, get_or, sym, ap, ◌∙◌, subst, inl, inr}
use Rattle.std.proofs.Math.Arith.{mod-mul}
use Rattle.std.specs.Int.{◌∣◌}
use Rattle.std.proofs.Math.Nat.{one-le-pow, div-div-eq-div-mul, div-eq_of_lt, mod-one, le-mul_of_pos_right, dvd-mul_right}
use Rattle.std.proofs.lemmas.Bool.{cases_lt}
use Rattle.std.proofs.lemmas.Bool.Decides.{nat_tests}
use Rattle.std.proofs.lemmas.Int.Digits.{digits_push, digits_value_push}
use Rattle.std.proofs.lemmas.List.FromFn.{length-range_with_len, get_or-range_with_len, map-range_with_len_more}
use Rattle.std.proofs.lemmas.List.Sums.{position_or_len_is, passes_at_first, prefix_len-le-length}
use Rattle.std.proofs.lemmas.Nat.{pow-add, mod_below}
use Rattle.std.proofs.lemmas.Nat.Gcd.{dvd_of_mod-eq-zero, mod-eq-zero_of_dvd, dvd_trans}
use Rattle.std.proofs.lemmas.Str.{digit_value_digit}
use Rattle.fluent_intl.specs.Decimal.{significant_places, place_digit}

pub ten_power_pos : (j : ℕ) → 0 < 10 ^ j
ten_power_pos j = one-le-pow j 10 (omega arith)

-- one digit more of a remainder
pub next_remainder : (f j : ℕ) → f % 10 ^ (j + 1) ≡ (f / 10 ^ j % 10) * 10 ^ j + f % 10 ^ j
next_remainder f j =
    let e : 10 ^ (j + 1) ≡ 10 * 10 ^ j = omega (arith, pow-add 10 j 1) in
    ap (λ m. f % m) e ∙ mod-mul f (let p : 0 < 10 = omega arith in p) (ten_power_pos j)

-- one digit less of a quotient
pub next_quotient : (f j : ℕ) → f / 10 ^ (j + 1) ≡ f / 10 ^ j / 10
next_quotient f j =
    let e : 10 ^ (j + 1) ≡ 10 ^ j * 10 = omega (arith, pow-add 10 j 1) in
    ap (λ m. f / m) e ∙ sym (div-div-eq-div-mul f (10 ^ j) 10)

-- what a larger power of ten divides, a smaller one does
pub fewer_zeros : (f j k : ℕ) → j ≤ k → f % 10 ^ k ≡ 0 → f % 10 ^ j ≡ 0
fewer_zeros f j k le h =
    let d : 10 ^ k ≡ 10 ^ j * 10 ^ (k - j) = ap (λ n. 10 ^ n) (let s : k ≡ j + (k - j) = omega arith in s) ∙ pow-add 10 j (k - j) in
    let P : ℕ → Type 0 = λ n. 10 ^ j ∣ n in
    mod-eq-zero_of_dvd (10 ^ j) (dvd_trans (10 ^ j) (subst P (sym d) (dvd-mul_right (10 ^ j) (10 ^ (k - j)))) (dvd_of_mod-eq-zero (10 ^ k) h))

zero_factor : (a b : ℕ) → 0 < b → a * b ≡ 0 → a ≡ 0
zero_factor a b p e = omega (arith, le-mul_of_pos_right a p, e)

-- the last of the digits is 0 where one power of ten more divides
pub last_zero : (f j : ℕ) → f % 10 ^ (j + 1) ≡ 0 → f / 10 ^ j % 10 ≡ 0
last_zero f j e = zero_factor _ _ (ten_power_pos j) (omega (arith, next_remainder f j, e))

abbrev fits_in : ℕ → ℕ → Bool
fits_in f k = f % 10 ^ (18 - k) == 0

in_range : (k : ℕ) → k < 18 → get_or (range_with_len 0 18) k 0 ≡ k
in_range k lt = omega (arith, get_or-range_with_len 0 18 k 0 lt)

fails_at : (f k : ℕ) → (f % 10 ^ (18 - k) ≡ 0 → ⊥) → fits_in f k ≡ false
fails_at f k h = grind (arith, nat_tests)

passes_at : (f k : ℕ) → f % 10 ^ (18 - k) ≡ 0 → fits_in f k ≡ true
passes_at f k h = grind (arith, nat_tests)

-- the one count of places that holds the fraction and has no 0 at its end
pub significant_is : (f i : ℕ) → i ≤ 18 → f % 10 ^ (18 - i) ≡ 0 → (0 < i → f / 10 ^ (18 - i) % 10 ≢ 0) → significant_places f ≡ i
unfolding significant_places
significant_is f i le whole last =
    let P : ℕ → Bool → Type 0 = λ k b. fits_in f k ≡ b in
    position_or_len_is (fits_in f) (range_with_len 0 18) i 0 (omega (arith, length-range_with_len 0 18))
    (λ k lt. ap (fits_in f) (in_range k (omega arith)) ∙ fails_at f k (λ e.
    last (omega arith) (last_zero f (18 - i) (fewer_zeros f (18 - i + 1) (18 - k) (omega arith) e))))
    (λ lt. ap (fits_in f) (in_range i (omega (arith, length-range_with_len 0 18))) ∙ passes_at f i whole)

-- one place fewer, where its digit is 0
pub one_place_fewer : (f i rest : ℕ) → 0 < i → i ≤ 18 → rest ≡ f / 10 ^ (18 - i) → f % 10 ^ (18 - i) ≡ 0 → rest % 10 ≡ 0
    → (i - 1 ≤ 18) × (rest / 10 ≡ f / 10 ^ (18 - (i - 1))) × (f % 10 ^ (18 - (i - 1)) ≡ 0)
one_place_fewer f i rest p le is whole zero_digit =
    let e : 18 - (i - 1) ≡ 18 - i + 1 = omega arith in
    let digit : f / 10 ^ (18 - i) % 10 ≡ 0 = ap (λ n. n % 10) (sym is) ∙ zero_digit in
    let P : ℕ → Type 0 = λ j. (i - 1 ≤ 18) × (rest / 10 ≡ f / 10 ^ j) × (f % 10 ^ j ≡ 0) in
    subst P (sym e) (
      omega arith,
      ap (λ n. n / 10) is ∙ sym (next_quotient f (18 - i)),
      next_remainder f (18 - i) ∙ ap (λ n. n * 10 ^ (18 - i) + f % 10 ^ (18 - i)) digit ∙ omega (arith, whole),
    )

pub quotient_before : (f i rest : ℕ) → 0 < i → i ≤ 18 → rest ≡ f / 10 ^ (18 - i) → rest / 10 ≡ f / 10 ^ (18 - (i - 1))
quotient_before f i rest p le is =
    let e : 18 - (i - 1) ≡ 18 - i + 1 = omega arith in
    ap (λ n. n / 10) is ∙ sym (next_quotient f (18 - i)) ∙ ap (λ j. f / 10 ^ j) (sym e)

-- the last place moves to the text after it
pub last_place_onto : (f i rest : ℕ) (after : List ℕ) → 0 < i → rest ≡ f / 10 ^ (18 - i)
    → map (place_digit f) (range_with_len 1 i) ++ after ≡ map (place_digit f) (range_with_len 1 (i - 1)) ++ (48 + rest % 10) ∷ after
last_place_onto f i rest after p is =
    let e : i ≡ i - 1 + 1 = omega arith in
    let j : 1 + (i - 1) ≡ i = omega arith in
    ap (λ n. map (place_digit f) (range_with_len 1 n) ++ after) e
    ∙ ap (λ ds. ds ++ after) (map-range_with_len_more (place_digit f) 1 (i - 1) i j)
    ∙ append_assoc (map (place_digit f) (range_with_len 1 (i - 1))) (place_digit f i ∷ []) after
    ∙ ap (λ d. map (place_digit f) (range_with_len 1 (i - 1)) ++ (48 + d % 10) ∷ after) (sym is)

-- the digits of a fraction, and their value

push_place : (f k : ℕ) → map (place_digit f) (range_with_len 1 (suc k)) ≡ map (place_digit f) (range_with_len 1 k) ++ place_digit f (suc k) ∷ []
push_place f k =
    let e : suc k ≡ k + 1 = omega arith in
    let j : 1 + k ≡ suc k = omega arith in
    ap (λ n. map (place_digit f) (range_with_len 1 n)) e ∙ map-range_with_len_more (place_digit f) 1 k (suc k) j

value_of_digit : (d : ℕ) → d < 10 → digit_value (48 + d) ≡ d
value_of_digit d small = omega (arith, digit_value_digit (48 + d) (omega arith, omega arith))

small_digit : (n : ℕ) → n % 10 < 10
small_digit n = mod_below n 10 (omega arith)

pub places_digits : (f k : ℕ) → AllDigits 10 (map (place_digit f) (range_with_len 1 k))
places_digits f zero = tt
places_digits f (suc k) =
    let small : f / 10 ^ (18 - suc k) % 10 < 10 = small_digit (f / 10 ^ (18 - suc k)) in
    subst (AllDigits 10) (sym (push_place f k))
    (digits_push 10 (map (place_digit f) (range_with_len 1 k)) (place_digit f (suc k)) (places_digits f k) (omega (arith, value_of_digit (f / 10 ^ (18 - suc k) % 10) small, small)))

pub places_value : (f k : ℕ) → f < 10 ^ 18 → k ≤ 18 → digits_value 10 (map (place_digit f) (range_with_len 1 k)) ≡ f / 10 ^ (18 - k)
places_value f zero small le = sym (div-eq_of_lt small)
places_value f (suc k) small le =
    let j : 18 - k ≡ 18 - suc k + 1 = omega arith in
    let before : digits_value 10 (map (place_digit f) (range_with_len 1 k)) ≡ f / 10 ^ (18 - suc k) / 10 = places_value f k small (omega arith) ∙ ap (λ n. f / 10 ^ n) j ∙ next_quotient f (18 - suc k) in
    let digit = value_of_digit (f / 10 ^ (18 - suc k) % 10) (small_digit (f / 10 ^ (18 - suc k))) in
    ap (digits_value 10) (push_place f k) ∙ digits_value_push 10 (map (place_digit f) (range_with_len 1 k)) (place_digit f (suc k)) ∙ omega (arith, before, digit)

-- no digit other than 0 stands after the significant places
pub significant_whole : (f : ℕ) → f % 10 ^ (18 - significant_places f) ≡ 0
unfolding significant_places
significant_whole f =
    let i = position_or_len (fits_in f) (range_with_len 0 18) in
    elim (cases_lt (position_or_len (fits_in f) (range_with_len 0 18)) 18) [
      | inl lt ↦ passed f (position_or_len (fits_in f) (range_with_len 0 18)) (ap (fits_in f) (sym (in_range _ lt)) ∙ passes_at_first (fits_in f) (range_with_len 0 18) 0 (omega (arith, lt, length-range_with_len 0 18)))
      | inr ge ↦ ap (λ n. f % 10 ^ n) (let z : 18 - position_or_len (fits_in f) (range_with_len 0 18) ≡ 0 = omega arith in z) ∙ mod-one f
    ]
  where
    passed : (f k : ℕ) → fits_in f k ≡ true → f % 10 ^ (18 - k) ≡ 0
    passed f k e = grind (arith, nat_tests)

pub significant_le : (f : ℕ) → significant_places f ≤ 18
unfolding significant_places
significant_le f = omega (arith, prefix_len-le-length (λ k. not (fits_in f k)) (range_with_len 0 18), length-range_with_len 0 18)
