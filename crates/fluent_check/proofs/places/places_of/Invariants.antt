use Rattle.std.proofs.Common.{◌≡◌, ◌++◌, drop, map}
use Rattle.fluent_places.specs.Places.{names_of}
use Rattle.fluent_check.specs.Bundles.{bundle_view}
use Rattle.fluent_check.specs.Places.{first_places, keys_of, place_of, places_of}
use Rattle.fluent_sources.specs.Standing.{standing_view, standings}
use Rattle.fluent_check.proofs.places.places_of.Given as goal

abbrev pub invariant-loop-standing : goal.invariant-loop-standing
invariant-loop-standing l = record {
  list : standings l.places.list ++ first_places (names_of (bundle_view l.bundle)) (keys_of l.places) (map standing_view (drop l.standing-index l.standings))
      ≡ places_of (names_of (bundle_view l.bundle)) (map standing_view l.standings);
  keys : keys_of l.places ≡ map place_of (standings l.places.list);
}
