-- The sets of bytes in which the code finds runs.
use Rattle.std.specs.Prelude.{ℕ, Bool}
use Rattle.fluent_syntax.specs.declared.parser.bytes.Class.{Class}
use Rattle.fluent_syntax.specs.declared.parser.bytes.Class.TheVariants.{Identifier, Space, Text, Digit, Inside, Quoted, Function}
use Rattle.fluent_text.specs.Lexical.{is_identifier_byte, is_space, is_text, is_digit, is_inside, is_quoted, is_function_byte}

abbrev pub class_test : Class → ℕ → ℕ → Bool
class_test Identifier = is_identifier_byte
class_test Space = is_space
class_test Text = is_text
class_test Digit = is_digit
class_test Inside = is_inside
class_test Quoted = is_quoted
class_test Function = is_function_byte
