use Rattle.std.proofs.Common.{rules, sym, ap, ◌∙◌, Some}
use Rattle.fluent_ast.specs.View.{arguments_view}
use Rattle.fluent_bundle_entries.specs.IdNumbers.{table}
use Rattle.fluent_path.specs.Facts.{idle_path}
use Rattle.fluent_resolver_state.specs.Status.{environment_view, state_parts}
use Rattle.fluent_resolver.specs.Scoped.{given_ahead, given_view}
use Rattle.fluent_resolver.specs.ScopeView.{scope_parts, status}
use Rattle.fluent_resolver.proofs.NoArguments.{no_values, nothing_given, nothing_is}
use Rattle.fluent_resolver.proofs.Wholes.{gets, gets_as, gets_none, given_run}
use Rattle.fluent_resolver.proofs.scope.Scope.get_arguments.Goals as goal

pub returns-in_default-clause-got : goal.returns-in_default-clause-got
unfolding scope_parts state_parts
returns-in_default-clause-got g c =
    let content = g.C.FluentType.content in
    let a = status g.B.Context.meant g.B.Context.is_plain g.F.FluentFunction.answer content c.args.self.now in
    gets_none content c.new.result c.new-in_default.result _ a (ap (λ o. (given_ahead (given_view o) a).events) c.in_default.is) (ap (λ o. (given_ahead (given_view o) a).values) c.in_default.is) c.new.ensures.items (search rules)

pub returns-then-is_empty-clause-got : goal.returns-then-is_empty-clause-got
unfolding scope_parts state_parts
returns-then-is_empty-clause-got g c =
    let content = g.C.FluentType.content in
    let a = status g.B.Context.meant g.B.Context.is_plain g.F.FluentFunction.answer content c.args.self.now in
    let none = nothing_is (arguments_view c.in-Some.arguments.now) (sym c.is_empty.ensures ∙ c.if-is_empty.true) in
    let given = ap given_view c.in-Some.is ∙ ap Some none in
    gets_none content c.new-then-is_empty.result c.new-then-is_empty-2.result _ a (ap (λ o. (given_ahead o a).events) given ∙ nothing_given a) (ap (λ o. (given_ahead o a).values) given ∙ no_values a) c.new-then-is_empty.ensures.items (search rules)

pub returns-in-Ok-clause-got : goal.returns-in-Ok-clause-got
unfolding scope_parts state_parts
returns-in-Ok-clause-got g c =
    let content = g.C.FluentType.content in
    let a = status g.B.Context.meant g.B.Context.is_plain g.F.FluentFunction.answer content c.args.self.now in
    let old = c.args.self.now.state in
    let k = arguments_view c.in-Some.arguments.now in
    let home = ap (environment_view content) (c.application-home.ensures c.args.self.now.outside) in
    let idle = idle_path old.path (table old.ids.now) c.args.self.now.idle in
    gets_as (ap given_view c.in-Some.is)
    (gets (given_run c.calls_are_walks.ensures c.events_are_the_run.ensures.events (Some k) a).text home idle c.rest.ensures.rests c.in-Ok.is c.give_arguments-values.ensures)

pub returns-clause-got : goal.returns-clause-got
unfolding scope_parts state_parts
returns-clause-got g c =
    let content = g.C.FluentType.content in
    let a = status g.B.Context.meant g.B.Context.is_plain g.F.FluentFunction.answer content c.args.self.now in
    let old = c.args.self.now.state in
    let k = arguments_view c.in-Some.arguments.now in
    let home = ap (environment_view content) (c.application-home.ensures c.args.self.now.outside) in
    let idle = idle_path old.path (table old.ids.now) c.args.self.now.idle in
    gets_as (ap given_view c.in-Some.is)
    (gets (given_run c.calls_are_walks.ensures c.events_are_the_run.ensures.events (Some k) a).text home idle c.rest.ensures.rests (tt {0}) c.give_arguments-values.ensures)

pub returns-in-Ok-clause-runs : goal.returns-in-Ok-clause-runs
unfolding scope_parts state_parts
returns-in-Ok-clause-runs g c =
    let a = status g.B.Context.meant g.B.Context.is_plain g.F.FluentFunction.answer g.C.FluentType.content c.args.self.now in
    given_run c.calls_are_walks.ensures c.events_are_the_run.ensures.events (given_view c.args.arguments) a
