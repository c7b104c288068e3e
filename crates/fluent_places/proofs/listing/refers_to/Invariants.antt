use Rattle.std.proofs.Common.{map, take}
use Rattle.fluent_places.specs.NeedsView.{need_view, RefersIn}
use Rattle.fluent_places.specs.Places.{place_view}
use Rattle.fluent_places.proofs.listing.refers_to.Given as goal

abbrev pub invariant-loop-need : goal.invariant-loop-need
invariant-loop-need l = RefersIn (map need_view (take l.need-index l.need-items)) (place_view l.place) → ⊥
