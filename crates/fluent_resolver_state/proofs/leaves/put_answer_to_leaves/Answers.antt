use Rattle.std.proofs.Common.{rules, ap, sym, subst, ◌∙◌, [], ◌∷◌, ◌++◌, map}
use Rattle.fluent_ast.specs.References.{a_function}
use Rattle.fluent_ast.specs.View.{inline_view}
use Rattle.fluent_ast.specs.declared.ast.CallArguments as of_call
use Rattle.fluent_references.specs.Cursors.{seen}
use Rattle.fluent_references.specs.Links.{IsBefore}
use Rattle.fluent_semantics.specs.Arguments.{set_all}
use Rattle.fluent_semantics.specs.Events.{tells}
use Rattle.fluent_resolver_state.specs.Facts.Happening.{did_as, err_is, stays_on}
use Rattle.fluent_resolver_state.specs.Facts.Reporting.{did_after, did_some, some_as, some_fails, some_on}
use Rattle.fluent_resolver_state.specs.Happened.{answer_events}
use Rattle.fluent_resolver_state.specs.Leaves.{errors_of_call, errors_of_leaves, errors_of_named_leaves, leaf_answer, leaf_values, named_leaf_values}
use Rattle.fluent_resolver_state.specs.Status.{state, state_parts}
use Rattle.fluent_values.specs.View.{value_view}
use Rattle.fluent_resolver_state.proofs.LeafArguments.{same_answer, same_events}
use Rattle.fluent_resolver_state.proofs.leaves.put_answer_to_leaves.Goals as goal

pub returns-in_err-positional : goal.returns-in_err-positional
unfolding state_parts
returns-in_err-positional g c =
    let a = state g.B.Context.meant g.B.Context.is_plain g.F.FluentFunction.answer g.C.FluentType.content c.args.scope.now in
    let ns = (of_call.out-CallArguments c.args.arguments.now).named.items in
    let first = some_as (ap (errors_of_leaves a.environment) c.deref.ensures.value) c.positional_values.ensures.reports in
    did_some (answer_events a.bundle (inline_view c.args.inline.now) (leaf_answer c.args.id.now.name.now c.args.arguments.now a)) _ (search rules) (some_fails (errors_of_named_leaves a.environment ns) (err_is c.in_err-positional.was) first)

pub returns-in_err-named : goal.returns-in_err-named
unfolding state_parts
returns-in_err-named g c =
    let a = state g.B.Context.meant g.B.Context.is_plain g.F.FluentFunction.answer g.C.FluentType.content c.args.scope.now in
    let first = some_as (ap (errors_of_leaves a.environment) c.deref.ensures.value) c.positional_values.ensures.reports in
    let second = some_as (ap (λ env. errors_of_named_leaves env c.deref-2.result.now) first.environment ∙ ap (errors_of_named_leaves a.environment) c.deref-2.ensures.value) c.named_values.ensures.reports in
    did_some (answer_events a.bundle (inline_view c.args.inline.now) (leaf_answer c.args.id.now.name.now c.args.arguments.now a)) _ (search rules) (some_on c.in_ok-positional.was first second)

pub put_answer-requires : goal.put_answer-requires
unfolding state_parts
put_answer-requires g c =
    let stored = (stays_on c.positional_values.ensures.reports.stays c.named_values.ensures.reports.stays).stored in
    subst (λ number. IsBefore number (a_function c.args.id.now.name.now ∷ []) (seen c.args.cursor)) (sym (ap (λ s. s.numbers) stored)) c.requires

pub returns : goal.returns
unfolding state_parts
returns g c =
    let content = g.C.FluentType.content in
    let a = state g.B.Context.meant g.B.Context.is_plain g.F.FluentFunction.answer content c.args.scope.now in
    let d = state g.B.Context.meant g.B.Context.is_plain g.F.FluentFunction.answer content c.named_values.new.scope in
    let xs = (of_call.out-CallArguments c.args.arguments.now).positional.items in
    let ns = (of_call.out-CallArguments c.args.arguments.now).named.items in
    let id = c.args.id.now.name.now in
    let first = some_as (ap (errors_of_leaves a.environment) c.deref.ensures.value) c.positional_values.ensures.reports in
    let second = some_as (ap (λ env. errors_of_named_leaves env c.deref-2.result.now) first.environment ∙ ap (errors_of_named_leaves a.environment) c.deref-2.ensures.value) c.named_values.ensures.reports in
    let told = some_on c.in_ok-positional.was first second in
    let values = ap (map (value_view content)) c.deref-3.ensures.value ∙ c.in_ok-positional.ensures.values ∙ ap (leaf_values a.environment) c.deref.ensures.value in
    let args = c.in_ok-named.ensures.values ∙ ap (λ env. set_all (named_leaf_values env c.deref-2.result.now) []) first.environment ∙ ap (λ ns. set_all (named_leaf_values a.environment ns) []) c.deref-2.ensures.value in
    let answer = same_answer id a.bundle d.bundle (leaf_values a.environment xs) _ (set_all (named_leaf_values a.environment ns) []) _ told.stays.bundle values args in
    did_as (ap (λ es. tells (errors_of_call c.args.arguments.now a.environment) ++ es) (same_events (inline_view c.args.inline.now) a.bundle d.bundle _ _ told.stays.bundle answer))
    (did_after c.in_ok-named.was told c.put_answer.ensures)
