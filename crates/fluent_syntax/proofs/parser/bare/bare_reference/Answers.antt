use Rattle.std.proofs.Common.{sym, ◌∙◌, subst}
use Rattle.fluent_syntax.specs.Inside.Bare.{IsBare}
use Rattle.fluent_text.specs.Parser.{first}
use Rattle.fluent_syntax.specs.Facts.OneLine.{is_other}
use Rattle.fluent_syntax.proofs.BareReferences.{bare_variable, bare_message, bare_term}
use Rattle.fluent_syntax.proofs.Views.{view_variable, view_message, view_term}
use Rattle.fluent_syntax.proofs.parser.bare.bare_reference.Goals as goal

pub returns-in-Some : goal.returns-in-Some
returns-in-Some c =
    let rest = c.in_ok-id.rest.now in
    subst (λ x. IsBare c.args.s.now x rest) (sym (view_variable c.in_ok-id.id))
    (bare_variable c.args.s.now c.in-Some.name.now rest c.in_ok-id.id.name.now (sym c.in-Some.ensures.gives) (sym c.in_ok-id.ensures))

pub returns-in-Some-eat : goal.returns-in-Some-eat
returns-in-Some-eat c =
    let rest = c.in_ok-id-2.rest.now in
    subst (λ x. IsBare c.args.s.now x rest) (sym (view_term c.in_ok-id-2.id))
    (bare_term c.args.s.now c.in-Some-eat.name.now rest c.in_ok-id-2.id.name.now (sym c.in-Some-eat.ensures.gives) (sym c.in_ok-id-2.ensures) (is_other (first rest) 46 (λ e. c.if-byte_at-eq46.false (c.byte_at.ensures ∙ e))))

pub returns : goal.returns
returns c =
    let rest = c.in_ok-id-3.rest.now in
    subst (λ x. IsBare c.args.s.now x rest) (sym (view_message c.in_ok-id-3.id))
    (bare_message c.args.s.now rest c.in_ok-id-3.id.name.now (sym c.in_ok-id-3.ensures) (is_other (first rest) 46 (λ e. c.if-byte_at-eq46-2.false (c.byte_at-2.ensures ∙ e))))
