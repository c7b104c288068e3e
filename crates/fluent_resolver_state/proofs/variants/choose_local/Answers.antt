use Rattle.std.proofs.Common.{ap, sym, ◌∙◌, ◌≡◌, None, unwrap_or}
use Rattle.std.specs.Option.{option_map}
use Rattle.fluent_ast.specs.References.{variants_view}
use Rattle.fluent_ast.specs.View.{inline_view}
use Rattle.fluent_semantics.specs.Arguments.{get}
use Rattle.fluent_semantics.specs.Bundle.{goes_to}
use Rattle.fluent_semantics.specs.Value.{error_value}
use Rattle.fluent_resolver_state.proofs.Choice.{error_chooses}
use Rattle.fluent_resolver_state.specs.Choice.{first_default}
use Rattle.fluent_resolver_state.specs.ChosenView.{chosen}
use Rattle.fluent_resolver_state.specs.Locals.{literal_value, locals_view}
use Rattle.fluent_values.specs.View.{value_view}
use Rattle.fluent_resolver_state.proofs.variants.choose_local.Goals as goal

pub returns-in-None-clause-chose : goal.returns-in-None-clause-chose
returns-in-None-clause-chose g c =
    let content = g.C.FluentType.content in
    let b = g.B.Context.meant c.args.bundle.now in
    let id = c.args.name.now in
    let vs = variants_view c.args.variants.now in
    let none : get id (locals_view content c.args.locals.now) ≡ None = ap (λ l. get id (locals_view content l)) c.in-Values.is ∙ sym c.get.ensures ∙ ap (option_map (λ v. value_view content v.now)) c.in-None.is in
    c.first_default.ensures.chose ∙ sym (error_chooses b (first_default vs) vs) ∙ ap (λ o. chosen (goes_to b (unwrap_or o error_value)) c.args.variants.now) (sym none)

pub returns-in-None-literal-clause-chose : goal.returns-in-None-literal-clause-chose
returns-in-None-literal-clause-chose g c =
    let content = g.C.FluentType.content in
    let b = g.B.Context.meant c.args.bundle.now in
    let id = c.args.name.now in
    let vs = variants_view c.args.variants.now in
    let none : get id (locals_view content c.args.locals.now) ≡ None = ap (λ l. get id (locals_view content l)) c.in-Literals.is ∙ sym c.literal.ensures ∙ ap (option_map (λ x. literal_value (inline_view x.now))) c.in-None-literal.is in
    c.first_default-in-None-literal.ensures.chose ∙ sym (error_chooses b (first_default vs) vs) ∙ ap (λ o. chosen (goes_to b (unwrap_or o error_value)) c.args.variants.now) (sym none)
