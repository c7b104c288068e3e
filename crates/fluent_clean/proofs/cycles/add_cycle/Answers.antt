use Rattle.std.proofs.Common.{subst}
use Rattle.fluent_places.specs.Places.{views}
use Rattle.fluent_clean.specs.Findings.{GoRound}
use Rattle.fluent_clean.proofs.cycles.add_cycle.Goals as goal

pub returns-in_ok-push_cycle : goal.returns-in_ok-push_cycle
returns-in_ok-push_cycle g c =
    let named = g.B.GetEntry.named c.args.bundle.now in
    c.in_ok-push_cycle.ensures named (subst (λ l. GoRound named (views l)) c.deref.ensures.value (c.in_ok-is_cycle.ensures c.if-branch.true))
