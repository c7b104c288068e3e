use Rattle.std.proofs.Common.{sym, ap, ◌∙◌}
use Rattle.fluent_ast.specs.References.{a_message, a_term, in_inline}
use Rattle.fluent_ast.specs.Tree.{term}
use Rattle.fluent_ast.specs.View.{attribute_of, call_view, inline_view}
use Rattle.fluent_bundle_entries.specs.IdNumbers.{numbers}
use Rattle.fluent_resolver_state.specs.Facts.Views.{view_message_in, view_term_in}
use Rattle.fluent_resolver_state.specs.Status.{state, state_parts}
use Rattle.fluent_resolver.specs.Inside.Parts.{target_of}
use Rattle.fluent_resolver.proofs.OneText.{leads_if_free}
use Rattle.fluent_resolver.proofs.Placed.{placed_first}
use Rattle.fluent_resolver.proofs.arguments.text_led_to.Goals as goal

pub returns-in-MessageReference : goal.returns-in-MessageReference
unfolding state_parts
returns-in-MessageReference g c =
    let a = state g.B.Context.meant g.B.Context.is_plain g.F.FluentFunction.answer g.C.FluentType.content c.args.scope.now in
    let r = c.in-MessageReference in
    let is = ap (target_of a.bundle) (view_message_in c.args.inline.now r.id r.attribute r.is) in
    leads_if_free a (inline_view c.args.inline.now) c.message.result c.free_text.result (is ∙ sym (c.message.ensures.content g.F.FluentFunction.answer)) c.free_text.ensures

pub returns-in-None : goal.returns-in-None
unfolding state_parts
returns-in-None g c =
    let a = state g.B.Context.meant g.B.Context.is_plain g.F.FluentFunction.answer g.C.FluentType.content c.args.scope.now in
    let r = c.in-TermReference in
    let is = ap (target_of a.bundle) (view_term_in c.args.inline.now r.id r.attribute r.arguments r.is ∙ ap (λ o. term r.id.name.now (attribute_of r.attribute) (call_view o)) c.in-None.is) in
    leads_if_free a (inline_view c.args.inline.now) c.term.result c.free_text-in-None.result (is ∙ sym (c.term.ensures.content g.F.FluentFunction.answer)) c.free_text-in-None.ensures

pub term-requires : goal.term-requires
term-requires g c =
    let r = c.in-TermReference in
    placed_first (numbers c.args.scope.now.ids.now) _ (a_term r.id.name.now) _ c.args.cursor (ap in_inline (view_term_in c.args.inline.now r.id r.attribute r.arguments r.is)) c.requires
