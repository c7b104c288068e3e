use Rattle.fluent_clean.proofs.Looked.{true_then}
use Rattle.fluent_clean.proofs.cycles.add_all.Goals as goal

pub loop-cycle-preserved : goal.loop-cycle-preserved
loop-cycle-preserved g c = λ limit. true_then (g.B.GetEntry.named c.args.bundle.now) limit _ _ _ (c.loop-cycle.invariant limit) (c.in_ok-add_cycle.ensures limit)
