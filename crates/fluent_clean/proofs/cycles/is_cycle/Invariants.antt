use Rattle.std.proofs.Common.{take}
use Rattle.fluent_places.specs.Places.{place_view, views}
use Rattle.fluent_clean.proofs.Round.{Led}
use Rattle.fluent_clean.proofs.cycles.is_cycle.Given as goal

abbrev pub invariant-loop-place : goal.invariant-loop-place
invariant-loop-place g l = Led (g.B.GetEntry.named l.bundle) (place_view l.initial.last) (views (take l.place-index l.places)) (place_view l.last)
