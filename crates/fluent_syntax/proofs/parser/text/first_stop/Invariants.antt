use Rattle.std.proofs.Common.{◌-◌, ◌≤◌, length}
use Rattle.memchr.specs.Find.{Nowhere, Passes, is_byte3}
use Rattle.fluent_syntax.proofs.parser.text.first_stop.Given as goal

abbrev pub invariant-loads : goal.invariant-loads
invariant-loads l = (l.at ≤ length l.bytes) × Nowhere (Passes (is_byte3 10 123 125) l.bytes) 0 l.at

abbrev pub decreases-loads : goal.decreases-loads
decreases-loads l = length l.bytes - l.at
