use Rattle.std.proofs.Common.{ap, sym, ◌∙◌, ◌≡◌, None}
use Rattle.std.specs.Option.{option_map}
use Rattle.fluent_ast.specs.View.{inline_view}
use Rattle.fluent_semantics.specs.Arguments.{get}
use Rattle.fluent_semantics.specs.Walk.{variables}
use Rattle.fluent_resolver_state.specs.Facts.Happening.{did_as, did_put}
use Rattle.fluent_resolver_state.specs.Facts.Naming.{events_outside, shown_in_term}
use Rattle.fluent_resolver_state.specs.Happened.{variable_events}
use Rattle.fluent_resolver_state.specs.Locals.{locals_view}
use Rattle.fluent_resolver_state.specs.Status.{arguments_view, environment_view, state, state_parts}
use Rattle.fluent_values.specs.View.{value_view}
use Rattle.fluent_resolver_state.proofs.variable.write_variable.Goals as goal

pub returns-in-Local : goal.returns-in-Local
unfolding state_parts
returns-in-Local g c =
    let content = g.C.FluentType.content in
    let a = state g.B.Context.meant g.B.Context.is_plain g.F.FluentFunction.answer g.C.FluentType.content c.args.scope.now in
    let x = inline_view c.args.inline.now in
    let id = c.args.id.now.name.now in
    let m = locals_view content c.in-Local.locals in
    let is = ap (environment_view content) c.in-Local.is in
    did_as (shown_in_term a.bundle a.environment m x id is) (did_put a c.put_local.ensures)

pub returns-in-Some : goal.returns-in-Some
unfolding state_parts
returns-in-Some g c =
    let content = g.C.FluentType.content in
    let a = state g.B.Context.meant g.B.Context.is_plain g.F.FluentFunction.answer g.C.FluentType.content c.args.scope.now in
    let x = inline_view c.args.inline.now in
    let id = c.args.id.now.name.now in
    let there = ap (λ e. get id (variables (environment_view content e))) c.in-Application.is ∙ sym c.argument.ensures ∙ ap (option_map (λ v. value_view content v.now)) c.in-Some.is in
    did_as (ap (variable_events a.bundle a.environment x) (sym there)) (did_put a c.put_value.ensures.took)

pub returns-in-None : goal.returns-in-None
unfolding state_parts
returns-in-None g c =
    let content = g.C.FluentType.content in
    let a = state g.B.Context.meant g.B.Context.is_plain g.F.FluentFunction.answer g.C.FluentType.content c.args.scope.now in
    let x = inline_view c.args.inline.now in
    let id = c.args.id.now.name.now in
    let m = arguments_view content c.in-Application.args in
    let is = ap (environment_view content) c.in-Application.is in
    let none : get id m ≡ None = sym c.argument.ensures ∙ ap (option_map (λ v. value_view content v.now)) c.in-None.is in
    did_as (events_outside a.bundle a.environment m x id is none) c.lose.ensures.wrote
