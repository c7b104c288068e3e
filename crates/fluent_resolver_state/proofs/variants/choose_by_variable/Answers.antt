use Rattle.std.proofs.Common.{◌≡◌, sym, ap, ◌∙◌, [], None, unwrap_or}
use Rattle.fluent_ast.specs.References.{variants_view}
use Rattle.fluent_ast.specs.View.{inline_view}
use Rattle.fluent_semantics.specs.Arguments.{get}
use Rattle.fluent_semantics.specs.Bundle.{goes_to}
use Rattle.fluent_semantics.specs.Value.{error_value}
use Rattle.fluent_semantics.specs.Walk.{local, variables}
use Rattle.fluent_resolver_state.proofs.Choice.{error_chooses}
use Rattle.fluent_resolver_state.specs.Choice.{first_default}
use Rattle.fluent_resolver_state.specs.ChosenView.{chosen}
use Rattle.fluent_resolver_state.specs.Facts.Happening.{no_report}
use Rattle.fluent_resolver_state.specs.Facts.Naming.{none_told}
use Rattle.fluent_resolver_state.specs.Status.{state, state_parts}
use Rattle.fluent_resolver_state.proofs.variants.choose_by_variable.Goals as goal

pub returns-then-is_bare-clause-chose : goal.returns-then-is_bare-clause-chose
unfolding state_parts
returns-then-is_bare-clause-chose g c =
    let a = state g.B.Context.meant g.B.Context.is_plain g.F.FluentFunction.answer g.C.FluentType.content c.args.scope.now in
    let x = inline_view c.args.selector.now in
    let id = c.args.id.now.name.now in
    let vs = variants_view c.args.variants.now in
    let is : a.environment ≡ local [] = c.is_bare.ensures c.if-is_bare.true in
    let none : get id (variables a.environment) ≡ None = ap (λ e. get id (variables e)) is in
    (no_report _ a (none_told a.environment [] x (get id (variables a.environment)) is), c.first_default.ensures.chose ∙ sym (error_chooses a.bundle (first_default vs) vs) ∙ ap (λ o. chosen (goes_to a.bundle (unwrap_or o error_value)) c.args.variants.now) (sym none))
