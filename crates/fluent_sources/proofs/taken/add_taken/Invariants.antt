use Rattle.std.proofs.Common.{◌≡◌, [], ◌++◌, drop, map}
use Rattle.fluent_patterns.specs.Found.{found_in}
use Rattle.fluent_sources.specs.Inside.Ids.{firsts_in}
use Rattle.fluent_sources.specs.Standing.{standing_view}
use Rattle.fluent_sources.specs.Taken.{taken}
use Rattle.fluent_sources.proofs.taken.add_taken.Given as goal

abbrev pub invariant-loop-standing : goal.invariant-loop-standing
invariant-loop-standing l =
    found_in l.findings ++ taken (firsts_in l.firsts) (map standing_view (drop l.standing-index l.standings))
    ≡ found_in l.initial.findings ++ taken [] (map standing_view l.standings)
