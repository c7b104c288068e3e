use Rattle.std.proofs.Common.{◌≡◌, ◌++◌, drop, map}
use Rattle.fluent_patterns.specs.Found.{found_in}
use Rattle.fluent_check.specs.Patterns.{against_view, found_in_patterns}
use Rattle.fluent_sources.specs.Standing.{standing_view}
use Rattle.fluent_check.proofs.patterns.add_patterns.Given as goal

abbrev pub invariant-loop-standing : goal.invariant-loop-standing
invariant-loop-standing l =
    found_in l.findings ++ found_in_patterns (against_view l.against) (map standing_view (drop l.standing-index l.standing-items))
    ≡ found_in l.initial.findings ++ found_in_patterns (against_view l.against) (map standing_view l.standing-items)
