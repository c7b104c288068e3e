-- Runs of the bytes of plural rules end where characters do.
use Rattle.std.proofs.Common.{ℕ, List, IsUtf8, arith}
use Rattle.std.proofs.lemmas.Bool.Decides.{nat_tests}
use Rattle.std.specs.Str.{IsCharBoundary}
use Rattle.fluent_text.specs.Parser.{run_len}
use Rattle.fluent_text.specs.Lexical.{is_digit}
use Rattle.fluent_text.specs.Facts.Runs.{boundary-ascii, boundary-wide}
use Rattle.fluent_plural_rules.specs.RuleGrammar.{is_blank, is_letter, is_of_line}
use Rattle.fluent_plural_rules.specs.Inside.RuleReading.{class_test}
use Rattle.fluent_plural_rules.specs.declared.rule_texts.lexical.Class.{Class}
use Rattle.fluent_plural_rules.specs.declared.rule_texts.lexical.Class.TheVariants.{Blank, Letter, Digit, Line}

pub boundary : (class : Class) (s : List ℕ) → IsUtf8 s → IsCharBoundary s (run_len (class_test class) s)
boundary Blank s utf8 = boundary-ascii is_blank s utf8 (λ c d e. grind (arith, nat_tests))
boundary Letter s utf8 = boundary-ascii is_letter s utf8 (λ c d e. grind (arith, nat_tests))
boundary Digit s utf8 = boundary-ascii is_digit s utf8 (λ c d e. grind (arith, nat_tests))
boundary Line s utf8 = boundary-wide is_of_line s (λ c d e. grind (arith, nat_tests))
