use Rattle.std.proofs.Common.{◌≡◌, IfOk, subst}
use Rattle.fluent_ast.specs.View.{pattern_view}
use Rattle.fluent_check.specs.Bundles.{bundle_view}
use Rattle.fluent_check.proofs.Tries.{shown_by_choices}
use Rattle.fluent_check.proofs.tried.is_shown_of.Goals as goal

pub returns : goal.returns
returns c =
    let b = bundle_view c.args.bundle.now in
    let p = pattern_view c.args.pattern.now in
    subst (λ x. IfOk c.is_shown_by.result (λ yes. yes ≡ x))
    (shown_by_choices b p _ _ _ _ _ c.new.ensures c.in_ok-reaches_limit.ensures c.if-branch.false c.in_ok-choices.ensures c.as_slice.ensures.value c.tried.ensures)
    c.is_shown_by.ensures
