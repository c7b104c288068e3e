use Rattle.std.proofs.Common.{◌≡◌, ◌+◌, drop}
use Rattle.fluent_text.specs.Parser as parser
use Rattle.fluent_text.specs.Lexical.{is_plain}
use Rattle.fluent_text.proofs.bytes.plain_len.Given as goal

abbrev pub invariant-bytes : goal.invariant-bytes
invariant-bytes l = parser.run_len is_plain l.s ≡ l.at + parser.run_len is_plain (drop l.at l.s)
