use Rattle.std.proofs.Common.{◌≡◌, ◌++◌, drop, string_bytes}
use Rattle.fluent_resolver_state.specs.Status.{reported}
use Rattle.fluent_c_handles.specs.Calls.Formatting.{error_records}
use Rattle.fluent_c_handles.proofs.records.records.Given as goal

-- the records so far, and those of the rest
abbrev pub invariant-loop-error : goal.invariant-loop-error
invariant-loop-error l =
    string_bytes l.text ++ error_records (reported (drop l.error-index l.errors)) ≡ error_records (reported l.errors)
