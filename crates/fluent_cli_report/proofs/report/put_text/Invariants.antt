use Rattle.std.proofs.Common.{◌≡◌, ◌++◌, drop, flat_map, string_bytes}
use Rattle.fluent_cli_report.specs.Kept.{row_views}
use Rattle.fluent_cli_report.specs.Picture.{picture}
use Rattle.fluent_cli_report.specs.Report.{if_told}
use Rattle.fluent_cli_report.proofs.report.put_text.Given as goal

abbrev pub invariant-loop-row : goal.invariant-loop-row
invariant-loop-row l =
    string_bytes l.output ++ flat_map (if_told (picture l.look) l.is_little) (row_views (drop l.row-index l.rows))
    ≡ string_bytes l.initial.output ++ flat_map (if_told (picture l.look) l.is_little) (row_views l.rows)
