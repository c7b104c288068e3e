use Rattle.std.proofs.Common.{◌≡◌, ◌++◌, drop, map}
use Rattle.serde_json.specs.View.{view}
use Rattle.fluent_cli_report.specs.Json.{json_row}
use Rattle.fluent_cli_report.specs.Kept.{row_views}
use Rattle.fluent_cli_report.specs.Told.{told}
use Rattle.fluent_cli_report.proofs.json.objects_of.Given as goal

abbrev pub invariant-loop-row : goal.invariant-loop-row
invariant-loop-row l =
    map view l.list.items ++ map json_row (told l.is_little (row_views (drop l.row-index l.rows)))
    ≡ map json_row (told l.is_little (row_views l.rows))
