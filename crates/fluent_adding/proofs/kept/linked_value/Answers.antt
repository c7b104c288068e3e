use Rattle.std.proofs.Common.{◌∙◌, ap, sym, subst, None, Some}
use Rattle.std.specs.Option.{option_map}
use Rattle.fluent_ast.specs.View.{pattern_view}
use Rattle.fluent_bundle_entries.specs.KeptLinks.{IsValueKept}
use Rattle.fluent_bundle_entries.specs.IdNumbers.{numbers, table}
use Rattle.fluent_adding.proofs.Linking.{one_value, text_value}
use Rattle.fluent_adding.proofs.kept.linked_value.Goals as goal

pub returns-then-is_text-clause-linked : goal.returns-then-is_text-clause-linked
returns-then-is_text-clause-linked g c =
    let n = numbers c.args.known.now in
    let t = table c.args.known.now in
    subst (λ o. IsValueKept n t o None) (sym (ap (option_map (λ p. pattern_view p.now)) c.in-Some.is))
    (text_value n t (pattern_view c.in-Some.pattern.now) (sym c.is_text.ensures ∙ c.if-is_text.true))

pub returns-in_ok-link-in-Some-clause-linked : goal.returns-in_ok-link-in-Some-clause-linked
returns-in_ok-link-in-Some-clause-linked g c =
    let n = numbers c.link.new.self in
    let t = table c.link.new.self in
    let l = c.in_ok-link-in-Some.field-0 in
    let kept = one_value n t (pattern_view c.in-Some.pattern.now) l c.in_ok-link-in-Some.ensures.linked in
    subst (λ o. IsValueKept n t o (Some l)) (sym (ap (option_map (λ p. pattern_view p.now)) c.in-Some.is)) kept
