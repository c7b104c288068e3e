-- The options of a number, which are those of Fluent's builtin function NUMBER: their words, their content, their defaults.
use Rattle.std.specs.Prelude.{ℕ, Bool, true, nat_eq, if◌then◌else◌, List, Option, None, codes}
use Rattle.std.specs.Option.{option_map}
use Rattle.std.specs.Prelude.{string_bytes}
use Rattle.std.specs.Cmp.Lexicographic.{pointwise}
use Rattle.fluent_intl.specs.declared.options.FluentNumberType.{FluentNumberType}
use Rattle.fluent_intl.specs.declared.options.FluentNumberType.TheVariants.{Cardinal, Ordinal}
use Rattle.fluent_intl.specs.declared.options.FluentNumberStyle.{FluentNumberStyle}
use Rattle.fluent_intl.specs.declared.options.FluentNumberStyle.TheVariants.{Decimal, Currency, Percent}
use Rattle.fluent_intl.specs.declared.options.FluentNumberCurrencyDisplayStyle.{FluentNumberCurrencyDisplayStyle}
use Rattle.fluent_intl.specs.declared.options.FluentNumberCurrencyDisplayStyle.TheVariants.{Symbol, Code, Name}
use Rattle.fluent_intl.specs.declared.options.FluentNumberOptions.{FluentNumberOptions}

-- the text is this word
abbrev pub is_word : List ℕ → List ℕ → Bool
is_word word text = pointwise nat_eq text word

-- each lower-case word names its variant, and any other text the first one
abbrev pub type_named : List ℕ → FluentNumberType
type_named text = if is_word (codes "ordinal") text then Ordinal else Cardinal

abbrev pub style_named : List ℕ → FluentNumberStyle
style_named text = if is_word (codes "currency") text then Currency else (if is_word (codes "percent") text then Percent else Decimal)

abbrev pub currency_display_named : List ℕ → FluentNumberCurrencyDisplayStyle
currency_display_named text = if is_word (codes "code") text then Code else (if is_word (codes "name") text then Name else Symbol)

-- the content of options: their fields, the currency as its bytes
pub record Options : Type 0 where
  pub number_type : FluentNumberType
  pub style : FluentNumberStyle
  pub currency : Option (List ℕ)
  pub currency_display : FluentNumberCurrencyDisplayStyle
  pub use_grouping : Bool
  pub minimum_integer_digits : Option ℕ
  pub minimum_fraction_digits : Option ℕ
  pub maximum_fraction_digits : Option ℕ
  pub minimum_significant_digits : Option ℕ
  pub maximum_significant_digits : Option ℕ

abbrev pub options_of : FluentNumberOptions → Options
options_of o = record {
  number_type = o.number_type;
  style = o.style;
  currency = option_map string_bytes o.currency;
  currency_display = o.currency_display;
  use_grouping = o.use_grouping;
  minimum_integer_digits = o.minimum_integer_digits;
  minimum_fraction_digits = o.minimum_fraction_digits;
  maximum_fraction_digits = o.maximum_fraction_digits;
  minimum_significant_digits = o.minimum_significant_digits;
  maximum_significant_digits = o.maximum_significant_digits;
}

-- grouping is on, and nothing else is set
abbrev pub default_options : Options
default_options = record {
  number_type = Cardinal;
  style = Decimal;
  currency = None;
  currency_display = Symbol;
  use_grouping = true;
  minimum_integer_digits = None;
  minimum_fraction_digits = None;
  maximum_fraction_digits = None;
  minimum_significant_digits = None;
  maximum_significant_digits = None;
}
