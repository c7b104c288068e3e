use Rattle.std.proofs.Common.{rules, ap, sym, ◌∙◌, ◌≡◌, None, unwrap_or}
use Rattle.std.specs.Option.{option_map}
use Rattle.fluent_ast.specs.View.{inline_view}
use Rattle.fluent_semantics.specs.Arguments.{get}
use Rattle.fluent_semantics.specs.Value.{error_value}
use Rattle.fluent_semantics.specs.Walk.{variables}
use Rattle.fluent_resolver_state.specs.Facts.Happening.{err_is, if_ok, no_report, reports_err, reports_ok}
use Rattle.fluent_resolver_state.specs.Facts.Naming.{errors_outside, none_told}
use Rattle.fluent_resolver_state.specs.Happened.{variable_errors}
use Rattle.fluent_resolver_state.specs.Locals.{locals_view}
use Rattle.fluent_resolver_state.specs.Status.{arguments_view, environment_view, state, state_parts}
use Rattle.fluent_values.specs.View.{value_view}
use Rattle.fluent_resolver_state.proofs.variable.resolve_variable.Goals as goal

pub returns-in-Local : goal.returns-in-Local
unfolding state_parts
returns-in-Local g c =
    let content = g.C.FluentType.content in
    let a = state g.B.Context.meant g.B.Context.is_plain g.F.FluentFunction.answer g.C.FluentType.content c.args.scope.now in
    let x = inline_view c.args.inline.now in
    let id = c.args.id.now.name.now in
    let m = locals_view content c.in-Local.locals in
    let is = ap (environment_view content) c.in-Local.is in
    (no_report c.value.result a (none_told a.environment m x (get id (variables a.environment)) is), if_ok c.value.result (λ v h. h ∙ ap (λ e. unwrap_or (get id (variables e)) error_value) (sym is)) c.value.ensures)

pub returns-in-Some : goal.returns-in-Some
unfolding state_parts
returns-in-Some g c =
    let content = g.C.FluentType.content in
    let a = state g.B.Context.meant g.B.Context.is_plain g.F.FluentFunction.answer g.C.FluentType.content c.args.scope.now in
    let x = inline_view c.args.inline.now in
    let id = c.args.id.now.name.now in
    let there = ap (λ e. get id (variables (environment_view content e))) c.in-Application.is ∙ sym c.argument.ensures ∙ ap (option_map (λ v. value_view content v.now)) c.in-Some.is in
    (no_report c.borrowed.result a (ap (variable_errors a.environment x) there), if_ok c.borrowed.result (λ v h. h ∙ ap (λ o. unwrap_or o error_value) (sym there)) c.borrowed.ensures)

pub returns-in_err-report_lost-in-None : goal.returns-in_err-report_lost-in-None
unfolding state_parts
returns-in_err-report_lost-in-None g c =
    let content = g.C.FluentType.content in
    let a = state g.B.Context.meant g.B.Context.is_plain g.F.FluentFunction.answer g.C.FluentType.content c.args.scope.now in
    let x = inline_view c.args.inline.now in
    let id = c.args.id.now.name.now in
    (reports_err _ (err_is c.in_err-report_lost-in-None.was) (search rules) c.report_lost.ensures.reports, search rules)

pub returns-in_ok-report_lost-in-None : goal.returns-in_ok-report_lost-in-None
unfolding state_parts
returns-in_ok-report_lost-in-None g c =
    let content = g.C.FluentType.content in
    let a = state g.B.Context.meant g.B.Context.is_plain g.F.FluentFunction.answer g.C.FluentType.content c.args.scope.now in
    let x = inline_view c.args.inline.now in
    let id = c.args.id.now.name.now in
    let m = arguments_view content c.in-Application.args in
    let is = ap (environment_view content) c.in-Application.is in
    let none : get id m ≡ None = sym c.argument.ensures ∙ ap (option_map (λ v. value_view content v.now)) c.in-None.is in
    (reports_ok _ c.in_ok-report_lost-in-None.was (errors_outside a.environment m x id is none) c.report_lost.ensures.reports, ap (λ o. unwrap_or o error_value) (sym (ap (λ e. get id (variables e)) is ∙ none)))
