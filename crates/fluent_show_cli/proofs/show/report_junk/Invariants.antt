use Rattle.std.proofs.Common.{◌≡◌, ◌++◌, map, take}
use Rattle.fluent_syntax.specs.Parsed.{error_range}
use Rattle.fluent_resolver_state.specs.Status.{reported}
use Rattle.fluent_show_cli.specs.Program.{error_at}
use Rattle.fluent_show_cli.proofs.show.report_junk.Given as goal

abbrev pub invariant-loop-error : goal.invariant-loop-error
invariant-loop-error l = reported l.errors.items ≡ reported l.fn.errors.items ++ map (λ e. error_at (error_range e)) (take l.error-index l.found)
