-- What is shown of what was expected.
use Rattle.std.specs.Prelude.{codes}
use Rattle.fluent_text.specs.Parser.{Text}
use Rattle.fluent_reasons.specs.declared.expected.Expected.{Expected}
use Rattle.fluent_reasons.specs.declared.expected.Expected.TheVariants as expected

abbrev pub expected_text : Expected → Text
expected_text expected.EntryStart = codes "expected an entry, which begins with a letter, '-' or '#'"
expected_text expected.EqualsSign = codes "expected '='"
expected_text expected.ClosingBrace = codes "expected a closing '}'"
expected_text expected.OpeningBracket = codes "expected '['"
expected_text expected.ClosingBracket = codes "expected a closing ']'"
expected_text expected.ClosingParenthesis = codes "expected a closing ')'"
expected_text expected.LineEnd = codes "expected a line break before the variants"
expected_text expected.Letter = codes "expected a name, which begins with a letter"
expected_text expected.Digit = codes "expected a digit"
expected_text expected.ValueOrAttributes = codes "expected a value or attributes"
expected_text expected.TermValue = codes "expected a value of the term"
expected_text expected.FunctionName = codes "a function's name is in capitals"
expected_text expected.ArgumentName = codes "expected a simple name before ':'"
expected_text expected.DefaultVariant = codes "expected a default variant, marked by '*'"
expected_text expected.Variant = codes "expected a variant after '->'"
expected_text expected.Value = codes "expected a value"
expected_text expected.VariantKey = codes "expected a variant's key, a name or a number"
expected_text expected.Literal = codes "expected a string or a number"
expected_text expected.OneDefault = codes "a default variant stands before this one"
expected_text expected.NoMessageSelector = codes "a message can't be a selector"
expected_text expected.NoTermSelector = codes "a term can't be a selector"
expected_text expected.NoAttributeSelector = codes "a message's attribute can't be a selector"
expected_text expected.NoAttributePlaceable = codes "a term's attribute can't be shown"
expected_text expected.ClosingQuote = codes "expected a closing '\"'"
expected_text expected.NoPositional = codes "a positional argument can't follow a named one"
expected_text expected.NewName = codes "an argument before has this name"
expected_text expected.KnownEscape = codes "expected an escape: \\\\, \\\", \\uXXXX or \\UXXXXXX"
expected_text expected.HexadecimalDigits = codes "expected hexadecimal digits, four after \\u and six after \\U"
expected_text expected.NoClosingBrace = codes "'}' can't stand in a text, and after variants it begins a line"
expected_text expected.Expression = codes "expected an expression"
expected_text expected.SimpleSelector = codes "a placeable can't be a selector"
expected_text expected.FewerLevels = codes "expected no more than 100 levels of braces and brackets"
