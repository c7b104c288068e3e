use Rattle.std.proofs.Common.{◌≡◌, ◌++◌, drop, map}
use Rattle.fluent_patterns.specs.Found.{found_in}
use Rattle.fluent_sources.specs.Repeated.{function_ids}
use Rattle.fluent_sources.specs.Standing.{standing_view}
use Rattle.fluent_sources.proofs.repeated.add_function_ids.Given as goal

abbrev pub invariant-loop-standing : goal.invariant-loop-standing
invariant-loop-standing l =
    found_in l.findings ++ function_ids (map standing_view (drop l.standing-index l.standings))
    ≡ found_in l.initial.findings ++ function_ids (map standing_view l.standings)
