use Rattle.fluent_places.specs.Inside.Sharing.{Joins}
use Rattle.fluent_places.proofs.settling.join_all.Given as goal

abbrev pub invariant-loop-other : goal.invariant-loop-other
invariant-loop-other g l = Joins (g.B.GetEntry.named l.bundle) l.initial.asked l.asked
