use Rattle.std.proofs.Common.{◌-◌, ◌≤◌, length}
use Rattle.fluent_sources.specs.LineMarks.{IsMark}
use Rattle.fluent_sources.proofs.lines.walk.Given as goal

abbrev pub invariant-loop-mark : goal.invariant-loop-mark
invariant-loop-mark l = record {
  exact : IsMark l.bytes l.mark;
  before : l.mark.at ≤ l.to;
}

abbrev pub decreases-loop-mark : goal.decreases-loop-mark
decreases-loop-mark l = length l.bytes - l.mark.at
