use Rattle.std.proofs.Common.{◌≡◌, ◌++◌}
use Rattle.fluent_cli_report.specs.Kept.{row_views}
use Rattle.fluent_cli_report.proofs.report.add_rows.Given as goal

abbrev pub invariant-loop-row : goal.invariant-loop-row
invariant-loop-row l = row_views l.all.items ≡ row_views l.fn.all.items ++ row_views l.yielded
