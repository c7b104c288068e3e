-- Exact numbers: which texts are numbers, and the one text of each number.
use Rattle.std.specs.Prelude.{◌≡◌, ◌≢◌, ℕ, ℤ, ◌+◌, ◌-◌, ◌*◌, ◌*ℤ◌, ◌/◌, ◌%◌, ◌^◌, ◌<◌, ◌≤◌, ◌<ℤ◌, ◌⊎◌, ◌==◌, Bool, List, [], ◌∷◌, ◌++◌, length, map, min, max, Option, None, Some, pos, neg_ℤ, if◌then◌else◌, int_div, int_lt, slice_index, unsigned_abs, IsTrue}
use Rattle.std.specs.Fmt.{decimal}
use Rattle.std.specs.Int.{IsInRange}
use Rattle.std.specs.List.{position_or_len, range_with_len}
use Rattle.std.specs.Str.Parse.{AllDigits, digits_value, starts_with_minus, without_leading_sign}

-- A number is a count of units, of which 10^18 make one, and its size is below 2^64.
abbrev pub IsDecimal : ℤ → Type 0
IsDecimal z = unsigned_abs z < 2 ^ 64 * 10 ^ 18

-- the whole number x as a count of units
abbrev pub whole : ℤ → ℤ
whole x = x *ℤ pos (10 ^ 18)

-- the whole part of the number z, cut toward zero
abbrev pub cut : ℤ → ℤ
cut z = int_div z (pos (10 ^ 18))

-- the number of a sign and a size in units
abbrev pub signed : Bool → ℕ → ℤ
signed minus n = if minus then neg_ℤ (pos n) else pos n

-- the number of a sign, a whole part and a fraction in units, which is below 1
abbrev pub IsMadeOf : Bool → ℕ → ℕ → ℤ → Type 0
IsMadeOf minus whole fraction z = (z ≡ signed minus (whole * 10 ^ 18 + fraction)) × (fraction < 10 ^ 18)

-- digits alone, or none, of a number below 2^64
abbrev pub AreDigitsThatFit : List ℕ → Type 0
AreDigitsThatFit text = AllDigits 10 text × (digits_value 10 text < 2 ^ 64)

-- A text without a sign gives a size in units and a count of digits after the point: digits alone, or digits around a point, with one digit at least in all, a whole part below 2^64 and at most 18 digits after the point.
abbrev pub ReadsUnsigned : List ℕ → ℕ → Option ℕ → Type 0
ReadsUnsigned text n places =
    (AllDigits 10 text × (0 < length text) × (digits_value 10 text < 2 ^ 64) × (n ≡ digits_value 10 text * 10 ^ 18) × (places ≡ None))
    ⊎ ((before : List ℕ) × (after : List ℕ) × (text ≡ before ++ 46 ∷ after) × AllDigits 10 before × AllDigits 10 after × (0 < length before + length after)
    × (digits_value 10 before < 2 ^ 64) × (length after ≤ 18)
    × (n ≡ digits_value 10 before * 10 ^ 18 + digits_value 10 after * 10 ^ (18 - length after)) × (places ≡ Some (length after)))

-- the text gives a size, and it is below 2^64
abbrev pub ReadsInRange : List ℕ → ℕ → Option ℕ → Type 0
ReadsInRange text n places = ReadsUnsigned text n places × (n < 2 ^ 64 * 10 ^ 18)

-- a text without a sign that gives no size
abbrev pub GivesNoSize : List ℕ → Type 0
GivesNoSize text = (n : ℕ) (places : Option ℕ) → ReadsUnsigned text n places → ⊥

-- The text is the number z with this count of digits after its point: the syntax's NumberLiteral, and beside it a `+` at the start and a point with no digit on one side.
abbrev pub Reads : List ℕ → ℤ → Option ℕ → Type 0
Reads text z places = (n : ℕ) × ReadsUnsigned (without_leading_sign text) n places × (z ≡ signed (starts_with_minus text) n)

-- the text is no number
abbrev pub IsNoNumber : List ℕ → Type 0
IsNoNumber text = (z : ℤ) (places : Option ℕ) → Reads text z places → ⊥

-- how many digits a fraction in units has up to the last that is not 0, which is the fewest places that hold it: the operand w of Unicode TR35, Plural Operand Meanings
unfoldable pub significant_places : ℕ → ℕ
significant_places fraction = position_or_len (λ k. fraction % 10 ^ (18 - k) == 0) (range_with_len 0 18)

-- How many digits stand after the point in the text of a number with this fraction, if it has a point. A minimum above 18 counts as 18.
abbrev pub text_places : ℕ → Option ℕ → Option ℕ
text_places fraction None = if significant_places fraction == 0 then None else Some (significant_places fraction)
text_places fraction (Some minimum) = Some (max (significant_places fraction) (min minimum 18))

-- the text is the number z with as many digits after its point as a minimum asks for
abbrev pub ReadsBack : ℤ → Option ℕ → List ℕ → Type 0
ReadsBack z minimum text = Reads text z (text_places (unsigned_abs z % 10 ^ 18) minimum)

-- a digit stands at the start, and no digit after a 0 at the start
abbrev pub IsPlain : List ℕ → Type 0
IsPlain text = IsInRange 48 57 (slice_index text 0) × (slice_index text 0 ≡ 48 → ¬ IsInRange 48 57 (slice_index text 1))

-- The text of the number z with a minimum of digits after the point.
pub record IsText (z : ℤ) (minimum : Option ℕ) (text : List ℕ) : Type 0 where
  pub reads : ReadsBack z minimum text
  pub plain : IsPlain (without_leading_sign text)
  pub no_plus : slice_index text 0 ≢ 43
  pub minus_below_zero : IsTrue (starts_with_minus text) → z <ℤ pos 0

-- it has no other text with this minimum
abbrev pub IsOnlyText : ℤ → Option ℕ → List ℕ → Type 0
IsOnlyText z minimum text = (other : List ℕ) → IsText z minimum other → other ≡ text

-- the digit at a place after the point
abbrev pub place_digit : ℕ → ℕ → ℕ
place_digit fraction place = 48 + fraction / 10 ^ (18 - place) % 10

-- the point and this many digits of a fraction in units
abbrev pub point_text : ℕ → Option ℕ → List ℕ
point_text fraction None = []
point_text fraction (Some places) = 46 ∷ map (place_digit fraction) (range_with_len 1 places)

-- that text, written out: a minus below 0, the whole part, the point and its digits
unfoldable pub decimal_text : ℤ → Option ℕ → List ℕ
decimal_text z minimum =
    let fraction = unsigned_abs z % 10 ^ 18 in
    (if int_lt z (pos 0) then 45 ∷ [] else []) ++ (decimal (unsigned_abs z / 10 ^ 18) ++ point_text fraction (text_places fraction minimum))

-- each number has one text for each minimum
abbrev pub OneText : Type 0
OneText = (z : ℤ) (minimum : Option ℕ) → IsDecimal z → IsText z minimum (decimal_text z minimum) × ((text : List ℕ) → IsText z minimum text → text ≡ decimal_text z minimum)

-- a text is one number at most, with one count of places
abbrev pub OneReading : Type 0
OneReading = (text : List ℕ) (y z : ℤ) (at_y at_z : Option ℕ) → Reads text y at_y → Reads text z at_z → (y ≡ z) × (at_y ≡ at_z)

-- a whole number that is made a number and cut to a whole number is itself
abbrev pub KeepsWholes : Type 0
KeepsWholes = (x : ℤ) → cut (whole x) ≡ x
