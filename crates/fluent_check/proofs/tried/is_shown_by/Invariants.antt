use Rattle.std.proofs.Common.{◌≡◌, drop, map}
use Rattle.std.specs.List.{list_any}
use Rattle.fluent_ast.specs.View.{pattern_view}
use Rattle.fluent_patterns.specs.Choices.{choices_in}
use Rattle.fluent_check.specs.Bundles.{bundle_view}
use Rattle.fluent_check.specs.Tried.{given, reaches_limit}
use Rattle.fluent_check.proofs.tried.is_shown_by.Given as goal

abbrev pub invariant-loop-choice : goal.invariant-loop-choice
invariant-loop-choice l =
    let reaches = reaches_limit (bundle_view l.bundle) (pattern_view l.pattern) in
    list_any reaches (map given (choices_in (drop l.choice-index l.choices)))
    ≡ list_any reaches (map given (choices_in l.choices))
