use Rattle.std.proofs.Common.{◌≡◌}
use Rattle.fluent_cli_report.specs.Pages.{texts}
use Rattle.fluent_cli_report.proofs.pages.lines_of.Given as goal

abbrev pub invariant-loop-line : goal.invariant-loop-line
invariant-loop-line l = texts l.list.items ≡ texts l.yielded
