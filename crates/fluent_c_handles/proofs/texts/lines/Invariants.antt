use Rattle.std.proofs.Common.{◌≡◌, ◌++◌, drop, string_bytes}
use Rattle.fluent_resolver_state.specs.Status.{reported}
use Rattle.fluent_c_handles.specs.Calls.Formatting.{error_lines}
use Rattle.fluent_c_handles.proofs.texts.lines.Given as goal

-- the lines so far, and those of the rest
abbrev pub invariant-loop-error : goal.invariant-loop-error
invariant-loop-error l =
    string_bytes l.text ++ error_lines (reported (drop l.error-index l.errors)) ≡ error_lines (reported l.errors)
