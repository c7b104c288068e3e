use Rattle.std.proofs.Common.{◌-◌}
use Rattle.fluent_reasons.specs.Reasons.{level}
use Rattle.fluent_reasons.proofs.ArgumentTurns.{Keeps}
use Rattle.fluent_reasons.proofs.inner.Inner.argument_list.Given as goal

abbrev pub invariant-arguments : goal.invariant-arguments
invariant-arguments g l = Keeps (level l.self.depth) l.fn.s l.names l.named (l._turn-end - l._turn) l.rest
