use Rattle.fluent_places.specs.Inside.Sharing.{AreListed}
use Rattle.fluent_places.proofs.settling.settle_groups.Given as goal

abbrev pub invariant-loop-group : goal.invariant-loop-group
invariant-loop-group g l = AreListed (g.B.GetEntry.named l.bundle) l.asked
