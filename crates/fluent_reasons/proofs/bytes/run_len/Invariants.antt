use Rattle.std.proofs.Common.{◌≡◌, ◌+◌, drop}
use Rattle.fluent_text.specs.Parser as parser
use Rattle.fluent_reasons.specs.ReasonRead.{class_test}
use Rattle.fluent_reasons.proofs.bytes.run_len.Given as goal

abbrev pub invariant-bytes : goal.invariant-bytes
invariant-bytes l = parser.run_len (class_test l.class) l.s ≡ l.at + parser.run_len (class_test l.class) (drop l.at l.s)
