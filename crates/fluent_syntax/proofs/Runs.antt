-- Where a run of a class ends.
use Rattle.std.proofs.Common.{ℕ, List, IsUtf8, arith}
use Rattle.std.proofs.lemmas.Bool.Decides.{nat_tests}
use Rattle.std.specs.Str.{IsCharBoundary}
use Rattle.fluent_syntax.specs.declared.parser.bytes.Class.{Class}
use Rattle.fluent_syntax.specs.declared.parser.bytes.Class.TheVariants.{Identifier, Space, Text, Digit, Inside, Quoted, Function}
use Rattle.fluent_syntax.specs.Inside.Classes.{class_test}
use Rattle.fluent_text.specs.Parser.{run_len}
use Rattle.fluent_text.specs.Lexical.{is_identifier_byte, is_space, is_text, is_digit, is_inside, is_quoted, is_function_byte}
use Rattle.fluent_text.specs.Facts.Runs.{boundary-ascii, boundary-wide}

pub boundary : (class : Class) (s : List ℕ) → IsUtf8 s → IsCharBoundary s (run_len (class_test class) s)
boundary Identifier s utf8 = boundary-ascii is_identifier_byte s utf8 (λ c d e. grind (arith, nat_tests))
boundary Space s utf8 = boundary-ascii is_space s utf8 (λ c d e. grind (arith, nat_tests))
boundary Digit s utf8 = boundary-ascii is_digit s utf8 (λ c d e. grind (arith, nat_tests))
boundary Inside s utf8 = boundary-wide is_inside s (λ c d e. grind (arith, nat_tests))
boundary Function s utf8 = boundary-ascii is_function_byte s utf8 (λ c d e. grind (arith, nat_tests))
boundary Quoted s utf8 = boundary-wide is_quoted s (λ c d e. grind (arith, nat_tests))
boundary Text s utf8 = boundary-wide is_text s (λ c d e. grind (arith, nat_tests))
