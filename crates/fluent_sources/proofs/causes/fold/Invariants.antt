use Rattle.std.proofs.Common.{◌≡◌, ◌++◌, drop, map, take}
use Rattle.fluent_patterns.specs.Found.{found_view}
use Rattle.fluent_sources.specs.Causes.{cause_of, folded, folded_from, folded_views}
use Rattle.fluent_sources.specs.Inside.Causes.{AreCounts}
use Rattle.fluent_sources.proofs.causes.fold.Given as goal

abbrev pub invariant-loop-finding : goal.invariant-loop-finding
invariant-loop-finding l =
    AreCounts (map cause_of (map found_view (take l.finding-index l.findings))) l.seen
    × (folded_views l.list.items
    ++ folded_from (map cause_of (map found_view l.findings)) (map cause_of (map found_view (take l.finding-index l.findings))) (map found_view (drop l.finding-index l.findings))
    ≡ folded (map found_view l.findings))
