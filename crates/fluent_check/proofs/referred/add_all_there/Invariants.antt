use Rattle.std.proofs.Common.{◌≡◌, ◌++◌, drop, map}
use Rattle.fluent_patterns.specs.Found.{found_in}
use Rattle.fluent_check.specs.Differences.{all_there, edition_view}
use Rattle.fluent_sources.specs.Standing.{standing_view}
use Rattle.fluent_check.proofs.referred.add_all_there.Given as goal

abbrev pub invariant-loop-standing : goal.invariant-loop-standing
invariant-loop-standing l =
    found_in l.findings ++ all_there (edition_view l.reference) (edition_view l.translation) (map standing_view (drop l.standing-index l.standing-items))
    ≡ found_in l.initial.findings ++ all_there (edition_view l.reference) (edition_view l.translation) (map standing_view l.standing-items)
