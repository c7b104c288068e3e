use Rattle.std.proofs.Common.{◌≡◌, ◌++◌, drop, map}
use Rattle.fluent_patterns.specs.Found.{flaw_view, found_in}
use Rattle.fluent_sources.specs.Standing.{flaws_at, standing_view}
use Rattle.fluent_check.proofs.flaws.add_flaws.Given as goal

abbrev pub invariant-loop-flaw : goal.invariant-loop-flaw
invariant-loop-flaw l =
    found_in l.findings ++ flaws_at (standing_view l.standing) (map flaw_view (drop l.flaw-index l.flaws))
    ≡ found_in l.initial.findings ++ flaws_at (standing_view l.standing) (map flaw_view l.flaws)
