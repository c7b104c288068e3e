use Rattle.std.proofs.Common.{◌≡◌, ◌++◌, drop, map}
use Rattle.fluent_places.specs.Asked.{texts}
use Rattle.fluent_places.specs.Places.{names_of}
use Rattle.fluent_check.specs.Bundles.{bundle_view}
use Rattle.fluent_check.specs.Patterns.{called_in}
use Rattle.fluent_sources.specs.Standing.{standing_view}
use Rattle.fluent_check.proofs.patterns.add_called_in.Given as goal

abbrev pub invariant-loop-standing : goal.invariant-loop-standing
invariant-loop-standing l =
    texts l.ids.items ++ called_in (names_of (bundle_view l.bundle)) (map standing_view (drop l.standing-index l.standing-items))
    ≡ texts l.initial.ids.items ++ called_in (names_of (bundle_view l.bundle)) (map standing_view l.standing-items)
