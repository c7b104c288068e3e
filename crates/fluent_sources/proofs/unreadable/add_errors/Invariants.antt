use Rattle.std.proofs.Common.{◌≡◌, ◌++◌, drop, map}
use Rattle.fluent_syntax.specs.Parsed.{error_range}
use Rattle.fluent_patterns.specs.Found.{found_in}
use Rattle.fluent_sources.specs.Unreadable.{unreadable_in}
use Rattle.fluent_sources.proofs.unreadable.add_errors.Given as goal

abbrev pub invariant-loop-error : goal.invariant-loop-error
invariant-loop-error l =
    found_in l.findings ++ unreadable_in l.file l.text (map error_range (drop l.error-index l.errors))
    ≡ found_in l.initial.findings ++ unreadable_in l.file l.text (map error_range l.errors)
