use Rattle.std.proofs.Common.{◌≡◌, ◌+◌, drop}
use Rattle.fluent_text.specs.Parser.{run_len}
use Rattle.fluent_text.specs.Lexical.{is_identifier_byte}
use Rattle.fluent_patterns.proofs.marks.name_len.Given as goal

abbrev pub invariant-bytes : goal.invariant-bytes
invariant-bytes l = run_len is_identifier_byte l.bytes ≡ l.at + run_len is_identifier_byte (drop l.at l.bytes)
