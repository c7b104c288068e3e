use Rattle.std.proofs.Common.{take}
use Rattle.std.specs.List.{AllByRecursion}
use Rattle.fluent_places.specs.Inside.Sharing.{AreListed, IsKnown}
use Rattle.fluent_places.specs.Places.{place_view}
use Rattle.fluent_places.proofs.settling.variables_at.Given as goal

abbrev pub invariant-loop-place : goal.invariant-loop-place
invariant-loop-place g l = record {
  listed : AreListed (g.B.GetEntry.named l.bundle) l.asked;
  known : AllByRecursion (λ q. IsKnown l.asked (place_view q)) (take l.place-index l.places);
}
