use Rattle.std.proofs.Common.{◌-◌, ◌+◌, ◌∙◌, length, arith}
use Rattle.fluent_reasons.specs.Reasons.{level, variant_turn}
use Rattle.fluent_reasons.proofs.Turns.{more, last}
use Rattle.fluent_reasons.proofs.inner.Inner.variant_turns.Goals as goal

pub returns-in_default : goal.returns-in_default
returns-in_default g c =
    let n = length c.args.s.now in
    c.variants.invariant ∙ last (variant_turn (level c.args.self.now.depth)) (n - c.variants._turn) c.variants.all c.variants.rest.now c.in_ok-more.next.now (omega arith) (rw c.in_default.is at c.in_ok-more.ensures)

pub variants-preserved : goal.variants-preserved
variants-preserved g c =
    let n = length c.args.s.now in
    c.variants.invariant ∙ more (variant_turn (level c.args.self.now.depth)) (n - c.variants._turn) (n - (c.variants._turn + 1)) c.variants.all c.in-Some.with c.variants.rest.now c.in_ok-more.next.now (omega arith) (rw c.in-Some.is at c.in_ok-more.ensures)
