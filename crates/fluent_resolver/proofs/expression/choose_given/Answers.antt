use Rattle.std.proofs.Common.{ap}
use Rattle.fluent_ast.specs.References.{variants_view}
use Rattle.fluent_resolver_state.specs.Status.{state, state_parts}
use Rattle.fluent_values.specs.Sinks.{outside}
use Rattle.fluent_resolver.specs.Frames.{made, selector_value, values_view}
use Rattle.fluent_resolver.specs.Inside.Parts as parts
use Rattle.fluent_resolver.specs.Inside.Waits.{values_in}
use Rattle.fluent_resolver.proofs.Going.{begun, turns, went_on}
use Rattle.fluent_resolver.proofs.Laying.{viewed}
use Rattle.fluent_resolver.proofs.expression.choose_given.Goals as goal

pub returns-in-Some-clause-goes : goal.returns-in-Some-clause-goes
unfolding state_parts
returns-in-Some-clause-goes g c k n =
    let content = g.C.FluentType.content in
    let a = state g.B.Context.meant g.B.Context.is_plain g.F.FluentFunction.answer content c.args.scope.now in
    let v = viewed c.args.out.now a (values_view content (values_in c.args.work.now)) in
    went_on (turns (ap (λ o. parts.matched (variants_view c.args.variants.now) (selector_value (made content o)) a.bundle (k a.bundle) v) c.in-Some.is) (begun _ n (outside g.W.Write.contents c.args.out.now) a)) (c.choose_variant.ensures.goes k n)

pub returns-in-None-clause-goes : goal.returns-in-None-clause-goes
unfolding state_parts
returns-in-None-clause-goes g c k n =
    let content = g.C.FluentType.content in
    let a = state g.B.Context.meant g.B.Context.is_plain g.F.FluentFunction.answer content c.args.scope.now in
    let v = viewed c.args.out.now a (values_view content (values_in c.args.work.now)) in
    went_on (turns (ap (λ o. parts.matched (variants_view c.args.variants.now) (selector_value (made content o)) a.bundle (k a.bundle) v) c.in-None.is) (begun _ n (outside g.W.Write.contents c.args.out.now) a)) (c.choose_variant-in-None.ensures.goes k n)
