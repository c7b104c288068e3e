use Rattle.std.proofs.Common.{◌-◌, ◌^◌}
use Rattle.fluent_places.specs.Asked.{texts}
use Rattle.fluent_places.specs.Places.{place_view, views}
use Rattle.fluent_places.specs.Inside.Reached.{Gathered}
use Rattle.fluent_places.proofs.asking.gather.Given as goal

abbrev pub invariant-loop-next : goal.invariant-loop-next
invariant-loop-next g l = Gathered (g.B.GetEntry.named l.bundle) (place_view l.place) l.next (views l.reached.keys) (texts l.names.keys)

abbrev pub decreases-loop-next : goal.decreases-loop-next
decreases-loop-next g l = 2 ^ 64 - l.next
