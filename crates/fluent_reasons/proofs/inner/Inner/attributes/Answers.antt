use Rattle.std.proofs.Common.{◌-◌, ◌+◌, ◌∙◌, length, arith}
use Rattle.fluent_reasons.specs.Reasons.{level, attribute_turn}
use Rattle.fluent_reasons.proofs.Turns.{more, last}
use Rattle.fluent_reasons.proofs.inner.Inner.attributes.Goals as goal

pub attributes-preserved : goal.attributes-preserved
attributes-preserved g c =
    let n = length c.args.s.now in
    c.attributes.invariant ∙ more (λ _. attribute_turn (level c.args.self.now.depth)) (n - c.attributes._turn) (n - (c.attributes._turn + 1)) tt tt c.attributes.rest.now c.in-Again.next.now (omega arith) (rw c.in-Again.is at c.in_ok-turn.ensures)

pub returns-in-Last : goal.returns-in-Last
returns-in-Last g c =
    let n = length c.args.s.now in
    c.attributes.invariant ∙ last (λ _. attribute_turn (level c.args.self.now.depth)) (n - c.attributes._turn) tt c.attributes.rest.now c.in-Last.end.now (omega arith) (rw c.in-Last.is at c.in_ok-turn.ensures)
