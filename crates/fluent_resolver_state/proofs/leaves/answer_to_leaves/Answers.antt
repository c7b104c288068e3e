use Rattle.std.proofs.Common.{rules, ap, ◌∙◌}
use Rattle.fluent_ast.specs.declared.ast.CallArguments as of_call
use Rattle.fluent_resolver_state.specs.Facts.Reporting.{some_as, some_failed, some_fails, some_ok, some_on}
use Rattle.fluent_resolver_state.specs.Leaves.{errors_of_leaves, errors_of_named_leaves}
use Rattle.fluent_resolver_state.specs.Status.{state, state_parts}
use Rattle.fluent_resolver_state.proofs.leaves.answer_to_leaves.Goals as goal

pub returns-in_err-positional-clause-reports : goal.returns-in_err-positional-clause-reports
unfolding state_parts
returns-in_err-positional-clause-reports g c =
    let a = state g.B.Context.meant g.B.Context.is_plain g.F.FluentFunction.answer g.C.FluentType.content c.args.scope.now in
    let ns = (of_call.out-CallArguments c.args.arguments.now).named.items in
    let first = some_as (ap (errors_of_leaves a.environment) c.deref.ensures.value) c.positional_values.ensures.reports in
    some_fails (errors_of_named_leaves a.environment ns) (search rules) first

pub returns-in_err-named-clause-reports : goal.returns-in_err-named-clause-reports
unfolding state_parts
returns-in_err-named-clause-reports g c =
    let a = state g.B.Context.meant g.B.Context.is_plain g.F.FluentFunction.answer g.C.FluentType.content c.args.scope.now in
    let first = some_as (ap (errors_of_leaves a.environment) c.deref.ensures.value) c.positional_values.ensures.reports in
    let second = some_as (ap (λ env. errors_of_named_leaves env c.deref-2.result.now) first.environment ∙ ap (errors_of_named_leaves a.environment) c.deref-2.ensures.value) c.named_values.ensures.reports in
    some_failed (search rules) (some_on c.in_ok-positional.was first second)

pub returns-in_err-answer-clause-reports : goal.returns-in_err-answer-clause-reports
unfolding state_parts
returns-in_err-answer-clause-reports g c =
    let a = state g.B.Context.meant g.B.Context.is_plain g.F.FluentFunction.answer g.C.FluentType.content c.args.scope.now in
    let first = some_as (ap (errors_of_leaves a.environment) c.deref.ensures.value) c.positional_values.ensures.reports in
    let second = some_as (ap (λ env. errors_of_named_leaves env c.deref-2.result.now) first.environment ∙ ap (errors_of_named_leaves a.environment) c.deref-2.ensures.value) c.named_values.ensures.reports in
    some_failed (search rules) (some_on c.in_ok-positional.was first second)

pub returns-in-Some-clause-reports : goal.returns-in-Some-clause-reports
unfolding state_parts
returns-in-Some-clause-reports g c =
    let a = state g.B.Context.meant g.B.Context.is_plain g.F.FluentFunction.answer g.C.FluentType.content c.args.scope.now in
    let first = some_as (ap (errors_of_leaves a.environment) c.deref.ensures.value) c.positional_values.ensures.reports in
    let second = some_as (ap (λ env. errors_of_named_leaves env c.deref-2.result.now) first.environment ∙ ap (errors_of_named_leaves a.environment) c.deref-2.ensures.value) c.named_values.ensures.reports in
    some_ok c.in_ok-named.was (some_on c.in_ok-positional.was first second)

pub returns-clause-reports : goal.returns-clause-reports
unfolding state_parts
returns-clause-reports g c =
    let a = state g.B.Context.meant g.B.Context.is_plain g.F.FluentFunction.answer g.C.FluentType.content c.args.scope.now in
    let first = some_as (ap (errors_of_leaves a.environment) c.deref.ensures.value) c.positional_values.ensures.reports in
    let second = some_as (ap (λ env. errors_of_named_leaves env c.deref-2.result.now) first.environment ∙ ap (errors_of_named_leaves a.environment) c.deref-2.ensures.value) c.named_values.ensures.reports in
    some_ok c.in_ok-named.was (some_on c.in_ok-positional.was first second)
