use Rattle.std.proofs.Common.{take}
use Rattle.fluent_lint.specs.Twice.{defined_in}
use Rattle.fluent_lint.specs.Inside.Seen.{IsSeen}
use Rattle.fluent_lint.proofs.sources.defined_twice.Given as goal

abbrev pub invariant-loop-i : goal.invariant-loop-i
invariant-loop-i l = IsSeen (defined_in 0 (take l.i l.resources)) l.seen
