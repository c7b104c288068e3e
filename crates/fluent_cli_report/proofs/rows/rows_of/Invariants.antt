use Rattle.std.proofs.Common.{◌≡◌, map, take}
use Rattle.fluent_patterns.specs.Found.{found_view}
use Rattle.fluent_sources.specs.Lined.{lined_views}
use Rattle.fluent_cli_report.specs.Kept.{row_views}
use Rattle.fluent_cli_report.specs.Rows.{row_of}
use Rattle.fluent_cli_report.proofs.rows.rows_of.Given as goal

abbrev pub invariant-loop-finding : goal.invariant-loop-finding
invariant-loop-finding l =
    row_views l.rows.items ≡ map (row_of (lined_views l.files)) (map found_view (take l.finding-index l.findings))
