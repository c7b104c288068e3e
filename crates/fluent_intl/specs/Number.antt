-- Numbers with options: their content, what a text reads as, and what whole types take out of them.
use Rattle.std.specs.Prelude.{◌≡◌, ℕ, ℤ, ◌≤ℤ◌, Bool, ◌&&◌, List, Option, Result, MatchResult}
use Rattle.std.specs.Int.{int_min, int_max}
use Rattle.std.specs.Ordering.{int_eq}
use Rattle.fluent_intl.specs.declared.number.FluentNumber.{FluentNumber}
use Rattle.fluent_intl.specs.Decimal.{IsText, Reads, decimal_text, whole, cut}
use Rattle.fluent_intl.specs.Options.{Options, options_of, default_options}
use Rattle.fluent_intl.specs.SameContent.{same_content}

-- the content of a number: a count of 10^-18, and the content of its options
pub record Number : Type 0 where
  pub value : ℤ
  pub options : Options

abbrev pub number_of : FluentNumber → Number
number_of n = record { value = n.value; options = options_of n.options }

-- the number z with a minimum of fraction digits, the other options as by default
abbrev pub number_with : ℤ → Option ℕ → Number
number_with z minimum = record { value = z; options = record default_options { minimum_fraction_digits = minimum } }

-- the text of a number, with its minimum of fraction digits
abbrev pub text_of : FluentNumber → List ℕ
text_of n = decimal_text n.value n.options.minimum_fraction_digits

abbrev pub IsTextOf : FluentNumber → List ℕ → Type 0
IsTextOf n text = IsText n.value n.options.minimum_fraction_digits text

-- where P, the answer has this content, and elsewhere it is an error
abbrev pub NumberIff : {E : Type 0} → Result FluentNumber E → Type 0 → Number → Type 0
NumberIff r P content = MatchResult r (λ n. P × (number_of n ≡ content)) (λ _. P → ⊥)

-- the text is this number (Fluent's NumberLiteral, as `Reads` says), whose minimum of fraction digits is the count of digits after the point
abbrev pub ReadsNumber : List ℕ → Number → Type 0
ReadsNumber text n = (z : ℤ) × (places : Option ℕ) × Reads text z places × (n ≡ number_with z places)

-- the number from low to high that is nearest to x
abbrev pub saturated : ℤ → ℤ → ℤ → ℤ
saturated low high x = int_max low (int_min high x)

-- What a type that holds the whole numbers from low to high takes out of the number z: z cut toward zero and saturated. So a whole number that the type holds comes out as itself.
abbrev pub IsTaken : ℤ → ℤ → ℤ → ℤ → Type 0
IsTaken low high z x = (x ≡ saturated low high (cut z)) × ((held : ℤ) → low ≤ℤ held → held ≤ℤ high → z ≡ whole held → x ≡ held)

-- the test whether two contents are the same
abbrev pub same_numbers : FluentNumber → FluentNumber → Bool
same_numbers a b = int_eq a.value b.value && same_content (options_of a.options) (options_of b.options)
