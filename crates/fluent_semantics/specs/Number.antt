-- Which number a text is, by computation (Fluent Syntax 1.0, "Number Literals", and signs and points beyond it), and when two numbers and two texts are the same.
use Rattle.std.specs.Prelude.{ℕ, ℤ, pos, ◌+◌, ◌-◌, ◌*◌, ◌^◌, ◌==◌, ◌&&◌, nat_eq, nat_lt, nat_le, unsigned_abs, Bool, true, [], ◌∷◌, length, Option, Some, None, codes, if◌then◌else◌}
use Rattle.std.specs.Char.{digit_value}
use Rattle.std.specs.Cmp.Lexicographic.{pointwise}
use Rattle.std.specs.Ordering.{int_eq}
use Rattle.std.specs.Str.Parse.{digits_value, starts_with_minus, without_leading_sign}
use Rattle.fluent_ast.specs.Tree.{Text}
use Rattle.fluent_intl.specs.Decimal.{signed, cut}
use Rattle.fluent_intl.specs.Number.{Number, saturated}
use Rattle.fluent_intl.specs.SameContent.{same_content}
use Rattle.fluent_intl.specs.declared.plurals.PluralCategory.{PluralCategory}
use Rattle.fluent_intl.specs.declared.plurals.PluralCategory.TheVariants.{ZERO, ONE, TWO, FEW, MANY, OTHER}

abbrev pub is_text : Text → Text → Bool
is_text = pointwise nat_eq

-- equal values and equal options
abbrev pub same_number : Number → Number → Bool
same_number a b = int_eq a.value b.value && same_content a.options b.options

-- the whole part of a number, cut toward zero, within 64 bits
abbrev pub as_count : ℤ → ℕ
as_count z = unsigned_abs (saturated (pos 0) (pos (2 ^ 64 - 1)) (cut z))

abbrev pub category_word : PluralCategory → Text
category_word ZERO = codes "zero"
category_word ONE = codes "one"
category_word TWO = codes "two"
category_word FEW = codes "few"
category_word MANY = codes "many"
category_word OTHER = codes "other"

-- ---- reading

abbrev pub all_digits : Text → Bool
all_digits [] = true
all_digits (b ∷ t) = nat_lt (digit_value b) 10 && all_digits t

-- what stands before the first point, and what stands after it, if there is one
abbrev pub before_point : Text → Text
before_point [] = []
before_point (b ∷ t) = if b == 46 then [] else b ∷ before_point t

abbrev pub after_point : Text → Option Text
after_point [] = None
after_point (b ∷ t) = if b == 46 then Some t else after_point t

-- digits, or digits, a point and digits, a digit in all, the whole part below 2^64 and at most 18 digits after the point: the size in units of 10^-18, and how many digits stand after the point
abbrev pub read_digits : Text → Option Text → Option (ℕ × Option ℕ)
read_digits whole None =
    if all_digits whole && nat_lt 0 (length whole) && nat_lt (digits_value 10 whole) (2 ^ 64)
    then Some (digits_value 10 whole * 10 ^ 18, None)
    else None
read_digits whole (Some part) =
    if all_digits whole && all_digits part && nat_lt 0 (length whole + length part) && nat_lt (digits_value 10 whole) (2 ^ 64) && nat_le (length part) 18
    then Some (digits_value 10 whole * 10 ^ 18 + digits_value 10 part * 10 ^ (18 - length part), Some (length part))
    else None

abbrev pub with_sign : Bool → Option (ℕ × Option ℕ) → Option (ℤ × Option ℕ)
with_sign minus None = None
with_sign minus (Some r) = Some (signed minus r.0, r.1)

-- the number that a text is, and its count of digits after the point; a plus or a minus may stand first
abbrev pub read_number : Text → Option (ℤ × Option ℕ)
read_number t = let u = without_leading_sign t in with_sign (starts_with_minus t) (read_digits (before_point u) (after_point u))
