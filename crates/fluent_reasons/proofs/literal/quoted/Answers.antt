use Rattle.std.proofs.Common.{◌-◌, ◌+◌, ◌∙◌, length, arith}
use Rattle.fluent_reasons.specs.Reasons.{quoted_turn}
use Rattle.fluent_reasons.proofs.Turns.{more, last}
use Rattle.fluent_reasons.proofs.literal.quoted.Goals as goal

pub quoted-preserved : goal.quoted-preserved
quoted-preserved c =
    let n = length c.args.s.now in
    c.quoted.invariant ∙ more (λ _. quoted_turn) (n - c.quoted._turn) (n - (c.quoted._turn + 1)) tt tt c.quoted.rest.now c.in-Again.next.now (omega arith) (rw c.in-Again.is at c.in_ok-turn.ensures)

pub returns-in-Last : goal.returns-in-Last
returns-in-Last c =
    let n = length c.args.s.now in
    c.quoted.invariant ∙ last (λ _. quoted_turn) (n - c.quoted._turn) tt c.quoted.rest.now c.in-Last.end.now (omega arith) (rw c.in-Last.is at c.in_ok-turn.ensures)
