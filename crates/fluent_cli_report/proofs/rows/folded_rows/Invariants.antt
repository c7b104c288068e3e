use Rattle.std.proofs.Common.{◌≡◌, map, take}
use Rattle.fluent_sources.specs.Causes.{folded_view}
use Rattle.fluent_sources.specs.Lined.{lined_views}
use Rattle.fluent_cli_report.specs.Kept.{row_views}
use Rattle.fluent_cli_report.specs.Rows.{folded_row}
use Rattle.fluent_cli_report.proofs.rows.folded_rows.Given as goal

abbrev pub invariant-loop-folded : goal.invariant-loop-folded
invariant-loop-folded l =
    row_views l.rows.items ≡ map (folded_row (lined_views l.files)) (map folded_view (take l.folded-index l.list))
