use Rattle.std.proofs.Common.{◌≡◌, ◌++◌, drop, map}
use Rattle.serde_json.specs.View.{view}
use Rattle.fluent_cli_report.specs.Kept.{row_views}
use Rattle.fluent_cli_report.specs.Sarif.{sarif_row}
use Rattle.fluent_cli_report.specs.Told.{told}
use Rattle.fluent_cli_report.proofs.sarif.results_of.Given as goal

abbrev pub invariant-loop-row : goal.invariant-loop-row
invariant-loop-row l =
    map view l.list.items ++ map sarif_row (told l.is_little (row_views (drop l.row-index l.rows)))
    ≡ map sarif_row (told l.is_little (row_views l.rows))
