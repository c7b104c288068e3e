use Rattle.std.proofs.Common.{◌≡◌, ◌++◌, drop, string_bytes}
use Rattle.fluent_resolver_state.specs.Status.{reported}
use Rattle.fluent_cli.specs.Shown.{error_lines}
use Rattle.fluent_cli.proofs.show.say_errors.Given as goal

abbrev pub invariant-loop-error : goal.invariant-loop-error
invariant-loop-error l =
    string_bytes l.said ++ error_lines (reported (drop l.error-index l.errors)) ≡ string_bytes l.initial.said ++ error_lines (reported l.errors)
