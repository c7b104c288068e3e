-- Numbers with options, as texts: the number, and then each option behind a semicolon, its name and its value around an equals sign.
-- The options are those of Fluent's NUMBER, and the currency is the last: all of the rest is its text. An empty option stands first
-- where the digits of the number are no minimum of fraction digits.
use Rattle.std.specs.Prelude.{◌==◌, ℕ, zero, suc, Bool, true, false, List, [], ◌∷◌, ◌++◌, length, Option, Some, None, if◌then◌else◌, codes, nat_lt, ◌&&◌, is_none}
use Rattle.std.specs.Fmt.{decimal}
use Rattle.std.specs.List.{before_first, after_first, list_any, position_or_len}
use Rattle.fluent_ast.specs.Tree.{Text}
use Rattle.fluent_intl.specs.Decimal.{decimal_text}
use Rattle.fluent_intl.specs.Number.{Number}
use Rattle.fluent_intl.specs.Options.{Options}
use Rattle.fluent_intl.specs.declared.options.FluentNumberType.{FluentNumberType}
use Rattle.fluent_intl.specs.declared.options.FluentNumberType.TheVariants.{Cardinal, Ordinal}
use Rattle.fluent_intl.specs.declared.options.FluentNumberStyle.{FluentNumberStyle}
use Rattle.fluent_intl.specs.declared.options.FluentNumberStyle.TheVariants.{Decimal, Currency, Percent}
use Rattle.fluent_intl.specs.declared.options.FluentNumberCurrencyDisplayStyle.{FluentNumberCurrencyDisplayStyle}
use Rattle.fluent_intl.specs.declared.options.FluentNumberCurrencyDisplayStyle.TheVariants.{Symbol, Code, Name}
use Rattle.fluent_semantics.specs.Arguments.{Map, number_function, set_all}
use Rattle.fluent_semantics.specs.Number.{is_text}
use Rattle.fluent_semantics.specs.Value.{Value, number_value, text_value, custom_value, no_value, error_value, try_number}

abbrev pub is_mark : ℕ → ℕ → Bool
is_mark mark c = c == mark

abbrev pub before : ℕ → Text → Text
before mark t = before_first (is_mark mark) t

-- nothing where there is no such mark
abbrev pub after : ℕ → Text → Text
after mark t = after_first (is_mark mark) t

-- what stands around the first such mark, where there is one
abbrev pub parts : ℕ → Text → Option (Text × Text)
parts mark t = if nat_lt (position_or_len (is_mark mark) t) (length t) then Some (before mark t, after mark t) else None

-- ---- reading: options as the named arguments of NUMBER

-- the first option of a text, and those after it, at most so many
abbrev pub options_within : ℕ → Text → List (Text × Value Text)
options_within zero t = []
options_within (suc n) [] = []
options_within (suc n) (c ∷ t) =
    let all = c ∷ t in
    if is_text (before 61 all) (codes "currency")
    then (before 61 all, text_value (after 61 all)) ∷ []
    else (before 61 (before 59 all), try_number (after 61 (before 59 all))) ∷ options_within n (after 59 all)

-- each option takes a byte or more; the last of a name stands
abbrev pub option_values : Text → Map (Value Text)
option_values t = set_all (options_within (length t) t) []

-- whether the first option is empty
abbrev pub is_first_empty : Text → Bool
is_first_empty [] = true
is_first_empty (c ∷ options) = c == 59

-- Where it is, the digits of the number are no minimum.
abbrev pub started : Number → Text → Number
started n options = if is_first_empty options then record n { options = record n.options { minimum_fraction_digits = None } } else n

-- what NUMBER answers to a number and its options
abbrev pub with_options : Number → Text → Value Text
with_options n options = number_function (number_value (started n options) ∷ []) (option_values options)

-- a text as a whole, where no number stands before its first semicolon
abbrev pub number_or_text : Text → Value Text → Text → Value Text
number_or_text t (number_value n) options = with_options n options
number_or_text t (text_value s) options = text_value t
number_or_text t (custom_value c) options = text_value t
number_or_text t no_value options = text_value t
number_or_text t error_value options = text_value t

abbrev pub value_by : Text → Option (Text × Text) → Value Text
value_by t None = try_number t
value_by t (Some p) = number_or_text t (try_number p.0) p.1

abbrev pub number_value_of : Text → Value Text
number_value_of t = value_by t (parts 59 t)

-- ---- writing: each option that differs from the default

abbrev pub option_text : Text → Option Text → Text
option_text name None = []
option_text name (Some word) = 59 ∷ name ++ 61 ∷ word

abbrev pub count_text : Text → Option ℕ → Text
count_text name None = []
count_text name (Some n) = 59 ∷ name ++ 61 ∷ decimal n

abbrev pub style_word : FluentNumberStyle → Option Text
style_word Decimal = None
style_word Currency = Some (codes "currency")
style_word Percent = Some (codes "percent")

abbrev pub display_word : FluentNumberCurrencyDisplayStyle → Option Text
display_word Symbol = None
display_word Code = Some (codes "code")
display_word Name = Some (codes "name")

abbrev pub grouping_word : Bool → Option Text
grouping_word true = None
grouping_word false = Some (codes "false")

abbrev pub type_word : FluentNumberType → Option Text
type_word Cardinal = None
type_word Ordinal = Some (codes "ordinal")

abbrev pub words_text : Options → Text
words_text o =
    option_text (codes "style") (style_word o.style)
    ++ option_text (codes "currencyDisplay") (display_word o.currency_display)
    ++ option_text (codes "useGrouping") (grouping_word o.use_grouping)

abbrev pub counts_text : Options → Text
counts_text o =
    count_text (codes "minimumIntegerDigits") o.minimum_integer_digits
    ++ count_text (codes "minimumFractionDigits") o.minimum_fraction_digits
    ++ count_text (codes "maximumFractionDigits") o.maximum_fraction_digits
    ++ count_text (codes "minimumSignificantDigits") o.minimum_significant_digits
    ++ count_text (codes "maximumSignificantDigits") o.maximum_significant_digits

-- whether there are digits behind the point that are no minimum
abbrev pub has_point : Text → Bool
has_point digits = list_any (λ c. c == 46) digits

abbrev pub has_empty : Option ℕ → Text → Bool
has_empty minimum digits = is_none minimum && has_point digits

-- an empty option, where there are
abbrev pub empty_option : Option ℕ → Text → Text
empty_option minimum digits = if has_empty minimum digits then 59 ∷ [] else []

abbrev pub number_text : Number → Text
number_text n =
    let digits = decimal_text n.value n.options.minimum_fraction_digits in
    digits
    ++ empty_option n.options.minimum_fraction_digits digits
    ++ words_text n.options
    ++ counts_text n.options
    ++ option_text (codes "type") (type_word n.options.number_type)
    ++ option_text (codes "currency") n.options.currency
