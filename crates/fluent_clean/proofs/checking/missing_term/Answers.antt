use Rattle.std.proofs.Common.{refl, sym, subst}
use Rattle.fluent_ast.specs.View.{attribute_of}
use Rattle.fluent_clean.specs.Inside.Steps.{MissesTerm}
use Rattle.fluent_clean.specs.declared.finding.Kind.TheVariants as kind
use Rattle.fluent_clean.proofs.Missing.{no_term, some_term, no_value_of_term, no_attribute_of_term}
use Rattle.fluent_clean.proofs.checking.missing_term.Goals as goal

pub returns-in-None : goal.returns-in-None
returns-in-None g c =
    let id = c.args.id.now.name in
    subst (λ o. MissesTerm (g.B.GetEntry.named c.args.bundle.now) id.now (attribute_of o) (kind.UnknownTerm id)) (sym c.in-None.is) (λ never names. (refl, λ seen fs. (_, names, refl, no_value_of_term _ never)))

pub returns-in-None-get_entry_term : goal.returns-in-None-get_entry_term
returns-in-None-get_entry_term g c = λ never names. (refl, λ seen fs. (_, names, refl, no_term _ c.in-None-get_entry_term.ensures.content))

pub returns-in-Some-get_entry_term : goal.returns-in-Some-get_entry_term
returns-in-Some-get_entry_term g c =
    let id = c.args.id.now.name in
    let named = g.B.GetEntry.named c.args.bundle.now in
    let name = c.in-Some.attribute.name in
    subst (λ o. MissesTerm named id.now (attribute_of o) (kind.UnknownTermAttribute id name)) (sym c.in-Some.is)
    (λ never names. (refl, λ seen fs. (names, refl, some_term _ _ c.in-Some-get_entry_term.ensures.content, no_attribute_of_term (named id.now) name.now never)))
