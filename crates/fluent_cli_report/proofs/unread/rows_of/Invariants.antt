use Rattle.std.proofs.Common.{◌≡◌, map, take}
use Rattle.fluent_cli_report.specs.Kept.{row_views}
use Rattle.fluent_cli_report.specs.Unread.{unread_row, unread_view}
use Rattle.fluent_cli_report.proofs.unread.rows_of.Given as goal

abbrev pub invariant-loop-file : goal.invariant-loop-file
invariant-loop-file l = row_views l.rows.items ≡ map unread_row (map unread_view (take l.file-index l.files))
