use Rattle.std.proofs.Common.{◌-◌, ◌+◌, ◌∙◌, length, arith}
use Rattle.fluent_reasons.specs.Reasons.{level, element}
use Rattle.fluent_reasons.proofs.Turns.{more, last}
use Rattle.fluent_reasons.proofs.inner.Inner.pattern.Goals as goal

pub elements-preserved : goal.elements-preserved
elements-preserved g c =
    let n = length c.args.s.now in
    c.elements.invariant ∙ more (λ _. element (level c.args.self.now.depth)) (n - c.elements._turn) (n - (c.elements._turn + 1)) tt tt c.elements.rest.now c.in-Again.next.now (omega arith) (rw c.in-Again.is at c.in_ok-turn.ensures)

pub returns-in-Last : goal.returns-in-Last
returns-in-Last g c =
    let n = length c.args.s.now in
    c.elements.invariant ∙ last (λ _. element (level c.args.self.now.depth)) (n - c.elements._turn) tt c.elements.rest.now c.in-Last.end.now (omega arith) (rw c.in-Last.is at c.in_ok-turn.ensures)
