use Rattle.std.proofs.Common.{◌≡◌, ◌++◌, drop, map}
use Rattle.fluent_patterns.specs.Found.{found_in, found_view}
use Rattle.fluent_cli_report.specs.Rows.{left_of}
use Rattle.fluent_cli_report.proofs.sorting.left_of.Given as goal

abbrev pub invariant-loop-finding : goal.invariant-loop-finding
invariant-loop-finding l =
    found_in l.left ++ left_of l.allowed (map found_view (drop l.finding-index l.findings))
    ≡ left_of l.allowed (map found_view l.findings)
