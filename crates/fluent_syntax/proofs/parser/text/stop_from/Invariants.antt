use Rattle.memchr.specs.Find.{Nowhere, Passes, is_byte3}
use Rattle.fluent_syntax.proofs.parser.text.stop_from.Given as goal

abbrev pub invariant-tail : goal.invariant-tail
invariant-tail l = Nowhere (Passes (is_byte3 10 123 125) l.bytes) 0 l.at
