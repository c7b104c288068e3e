use Rattle.std.proofs.Common.{refl, sym, subst}
use Rattle.fluent_ast.specs.View.{attribute_of}
use Rattle.fluent_clean.specs.Inside.Steps.{MissesMessage}
use Rattle.fluent_clean.specs.declared.finding.Kind.TheVariants as kind
use Rattle.fluent_clean.proofs.Missing.{no_message, some_message, without, no_attribute_of_message}
use Rattle.fluent_clean.proofs.checking.missing_message.Goals as goal

pub returns-in-None : goal.returns-in-None
returns-in-None g c = λ never. (refl, λ seen fs. (_, refl, no_message _ c.in-None.ensures.content))

pub returns-in-None-attribute : goal.returns-in-None-attribute
returns-in-None-attribute g c =
    let id = c.args.id.now.name in
    subst (λ o. MissesMessage (g.B.GetEntry.named c.args.bundle.now) id.now (attribute_of o) (kind.NoValue id)) (sym c.in-None-attribute.is) (λ never. (refl, λ seen fs. (refl, without _ _ c.in-Some.ensures.content never)))

pub returns-in-Some-attribute : goal.returns-in-Some-attribute
returns-in-Some-attribute g c =
    let id = c.args.id.now.name in
    let named = g.B.GetEntry.named c.args.bundle.now in
    let name = c.in-Some-attribute.attribute.name in
    subst (λ o. MissesMessage named id.now (attribute_of o) (kind.UnknownAttribute id name)) (sym c.in-Some-attribute.is)
    (λ never. (refl, λ seen fs. (refl, some_message _ _ c.in-Some.ensures.content, no_attribute_of_message (named id.now) name.now never)))
