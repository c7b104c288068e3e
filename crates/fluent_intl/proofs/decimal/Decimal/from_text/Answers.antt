use Rattle.std.proofs.Common.{rules, ◌≡◌, ◌∙◌, ap, subst, sym}
use Rattle.std.specs.Str.Parse.{starts_with_minus, without_leading_sign}
use Rattle.fluent_intl.specs.Decimal.{signed, ReadsUnsigned}
use Rattle.fluent_intl.proofs.decimal.Decimal.from_text.Goals as goal

pub returns-in-Some : goal.returns-in-Some
returns-in-Some c =
    let text : c.without_sign.result.now ≡ without_leading_sign c.args.text.now = c.without_sign.ensures ∙ ap without_leading_sign c.as_bytes-bytes.ensures.value in
    let units : c.signed_units.result ≡ signed (starts_with_minus c.args.text.now) c.in-Some.size = c.signed_units.ensures.value ∙ ap (λ b. signed b c.in-Some.size) (c.has_minus-negative.ensures ∙ ap starts_with_minus c.as_bytes-bytes.ensures.value) in
    (c.in-Some.size, subst (λ t. ReadsUnsigned t c.in-Some.size c.in-Some.places) text c.in-Some.ensures.0, search (rules, units))

pub returns-in-None : goal.returns-in-None
returns-in-None c = λ z places h.
    let text : c.without_sign.result.now ≡ without_leading_sign c.args.text.now = c.without_sign.ensures ∙ ap without_leading_sign c.as_bytes-bytes.ensures.value in
    c.in-None.ensures h.0 places (subst (λ t. ReadsUnsigned t h.0 places) (sym text) h.1)
