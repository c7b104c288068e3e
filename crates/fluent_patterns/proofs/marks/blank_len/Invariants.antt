use Rattle.std.proofs.Common.{◌≡◌, ◌+◌, drop}
use Rattle.fluent_text.specs.Parser.{run_len}
use Rattle.fluent_patterns.specs.Marks.{is_blank}
use Rattle.fluent_patterns.proofs.marks.blank_len.Given as goal

abbrev pub invariant-bytes : goal.invariant-bytes
invariant-bytes l = run_len is_blank l.bytes ≡ l.at + run_len is_blank (drop l.at l.bytes)
