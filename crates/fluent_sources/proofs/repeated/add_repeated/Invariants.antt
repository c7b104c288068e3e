use Rattle.std.proofs.Common.{◌≡◌, [], ◌++◌, drop, map}
use Rattle.fluent_places.specs.Asked.{texts}
use Rattle.fluent_patterns.specs.Found.{found_in}
use Rattle.fluent_sources.specs.Repeated.{repeated_attributes}
use Rattle.fluent_sources.specs.Standing.{standing_view}
use Rattle.fluent_sources.proofs.repeated.add_repeated.Given as goal

abbrev pub invariant-loop-standing : goal.invariant-loop-standing
invariant-loop-standing l =
    found_in l.findings ++ repeated_attributes (texts l.names.keys) (map standing_view (drop l.standing-index l.standings))
    ≡ found_in l.initial.findings ++ repeated_attributes [] (map standing_view l.standings)
