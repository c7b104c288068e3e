use Rattle.std.proofs.Common.{◌≡◌, drop, map}
use Rattle.std.specs.List.{list_any}
use Rattle.fluent_bundle_entries.specs.ErrorView.{error_view}
use Rattle.fluent_check.specs.Tried.{is_too_many}
use Rattle.fluent_check.proofs.tried.has_too_many.Given as goal

abbrev pub invariant-loop-error : goal.invariant-loop-error
invariant-loop-error l =
    list_any is_too_many (map error_view (drop l.error-index l.errors)) ≡ list_any is_too_many (map error_view l.errors)
