use Rattle.std.proofs.Common.{◌-◌, length}
use Rattle.std.specs.List.{All}
use Rattle.fluent_sources.specs.LineMarks.{IsMark}
use Rattle.fluent_sources.proofs.lines.marks_of.Given as goal

abbrev pub invariant-loop-mark : goal.invariant-loop-mark
invariant-loop-mark l = record {
  exact : IsMark l.bytes l.mark;
  all : All (IsMark l.bytes) l.marks.items;
}

abbrev pub decreases-loop-mark : goal.decreases-loop-mark
decreases-loop-mark l = length l.bytes - l.mark.at
