use Rattle.std.proofs.Common.{rules, ap, sym, ◌∙◌, ◌≡◌, None, unwrap_or}
use Rattle.std.specs.Option.{option_map}
use Rattle.fluent_ast.specs.View.{inline_view}
use Rattle.fluent_semantics.specs.Arguments.{get}
use Rattle.fluent_semantics.specs.Value.{error_value}
use Rattle.fluent_semantics.specs.Walk.{variables}
use Rattle.fluent_semantics.specs.Bundle.{goes_to}
use Rattle.fluent_resolver_state.proofs.Choice.{error_chooses}
use Rattle.fluent_resolver_state.specs.ChosenView.{chosen}
use Rattle.fluent_resolver_state.specs.Choice.{first_default}
use Rattle.fluent_ast.specs.References.{variants_view}
use Rattle.fluent_resolver_state.specs.Facts.Happening.{err_is, if_ok, no_report, reports_err, reports_ok}
use Rattle.fluent_resolver_state.specs.Facts.Naming.{errors_outside, none_told}
use Rattle.fluent_resolver_state.specs.Happened.{variable_errors}
use Rattle.fluent_resolver_state.specs.Locals.{locals_view}
use Rattle.fluent_resolver_state.specs.Status.{arguments_view, environment_view, state, state_parts}
use Rattle.fluent_values.specs.View.{value_view}
use Rattle.fluent_resolver_state.proofs.variants.choose_by_given.Goals as goal

pub returns-in-Local-clause-chose : goal.returns-in-Local-clause-chose
unfolding state_parts
returns-in-Local-clause-chose g c =
    let content = g.C.FluentType.content in
    let a = state g.B.Context.meant g.B.Context.is_plain g.F.FluentFunction.answer g.C.FluentType.content c.args.scope.now in
    let x = inline_view c.args.selector.now in
    let id = c.args.id.now.name.now in
    let m = locals_view content c.in-Local.locals in
    let is = ap (environment_view content) c.in-Local.is in
    (no_report c.choose_local.result a (none_told a.environment m x (get id (variables a.environment)) is), if_ok c.choose_local.result (λ v h. h ∙ ap (λ e. chosen (goes_to a.bundle (unwrap_or (get id (variables e)) error_value)) c.args.variants.now) (sym is)) c.choose_local.ensures.chose)

pub returns-in-Some-clause-chose : goal.returns-in-Some-clause-chose
unfolding state_parts
returns-in-Some-clause-chose g c =
    let content = g.C.FluentType.content in
    let a = state g.B.Context.meant g.B.Context.is_plain g.F.FluentFunction.answer g.C.FluentType.content c.args.scope.now in
    let x = inline_view c.args.selector.now in
    let id = c.args.id.now.name.now in
    let there = ap (λ e. get id (variables (environment_view content e))) c.in-Application.is ∙ sym c.argument.ensures ∙ ap (option_map (λ v. value_view content v.now)) c.in-Some.is in
    (no_report _ a (ap (variable_errors a.environment x) there), c.choose.ensures.chose ∙ ap (λ o. chosen (goes_to a.bundle (unwrap_or o error_value)) c.args.variants.now) (sym there))

pub returns-in_err-report_lost-in-None-clause-chose : goal.returns-in_err-report_lost-in-None-clause-chose
unfolding state_parts
returns-in_err-report_lost-in-None-clause-chose g c =
    let content = g.C.FluentType.content in
    let a = state g.B.Context.meant g.B.Context.is_plain g.F.FluentFunction.answer g.C.FluentType.content c.args.scope.now in
    let x = inline_view c.args.selector.now in
    let id = c.args.id.now.name.now in
    (reports_err _ (err_is c.in_err-report_lost-in-None.was) (search rules) c.report_lost.ensures.reports, search rules)

pub returns-in_ok-report_lost-in-None-clause-chose : goal.returns-in_ok-report_lost-in-None-clause-chose
unfolding state_parts
returns-in_ok-report_lost-in-None-clause-chose g c =
    let content = g.C.FluentType.content in
    let a = state g.B.Context.meant g.B.Context.is_plain g.F.FluentFunction.answer g.C.FluentType.content c.args.scope.now in
    let x = inline_view c.args.selector.now in
    let id = c.args.id.now.name.now in
    let m = arguments_view content c.in-Application.args in
    let is = ap (environment_view content) c.in-Application.is in
    let none : get id m ≡ None = sym c.argument.ensures ∙ ap (option_map (λ v. value_view content v.now)) c.in-None.is in
    (reports_ok _ c.in_ok-report_lost-in-None.was (errors_outside a.environment m x id is none) c.report_lost.ensures.reports, c.first_default.ensures.chose ∙ sym (error_chooses a.bundle (first_default (variants_view c.args.variants.now)) (variants_view c.args.variants.now)) ∙ ap (λ o. chosen (goes_to a.bundle (unwrap_or o error_value)) c.args.variants.now) (sym (ap (λ e. get id (variables e)) is ∙ none)))
