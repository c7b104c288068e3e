use Rattle.std.proofs.Common.{◌≡◌, ◌++◌, drop, map}
use Rattle.fluent_places.specs.Places.{names_of}
use Rattle.fluent_patterns.specs.CategoryView.{categories_view}
use Rattle.fluent_patterns.specs.Found.{found_in}
use Rattle.fluent_check.specs.Bundles.{bundle_view}
use Rattle.fluent_check.specs.Patterns.{found_selects}
use Rattle.fluent_sources.specs.Standing.{standing_view}
use Rattle.fluent_check.proofs.patterns.add_selects.Given as goal

abbrev pub invariant-loop-standing : goal.invariant-loop-standing
invariant-loop-standing l =
    found_in l.findings ++ found_selects (names_of (bundle_view l.bundle)) (names_of (bundle_view l.reference)) (categories_view l.categories) (map standing_view (drop l.standing-index l.standing-items))
    ≡ found_in l.initial.findings ++ found_selects (names_of (bundle_view l.bundle)) (names_of (bundle_view l.reference)) (categories_view l.categories) (map standing_view l.standing-items)
