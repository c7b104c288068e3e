-- How prices are shown.
use Rattle.std.specs.Prelude.{◌++◌, Option, Some, None, codes}
use Rattle.fluent_ast.specs.Tree.{Text}
use Rattle.fluent_intl.specs.Decimal.{decimal_text}
use Rattle.fluent_semantics.specs.Value.{Value, number_value}

-- the digits of a number with the code of its currency after them, if it has one
abbrev pub with_code : Text → Option Text → Option Text
with_code digits (Some code) = Some (digits ++ (codes " " ++ code))
with_code digits None = None

abbrev pub price : Value Text → Option Text
price (number_value n) = with_code (decimal_text n.value n.options.minimum_fraction_digits) n.options.currency
price _ = None
