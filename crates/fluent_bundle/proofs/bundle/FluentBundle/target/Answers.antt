use Rattle.std.proofs.Common.{sym, ap, subst, ◌∙◌}
use Rattle.fluent_ast.specs.View.{attribute_of}
use Rattle.fluent_resolver_state.specs.FoundView.{IsLed, found_view}
use Rattle.fluent_bundle.specs.BundleView.{bundle_parts, entries_in, meant}
use Rattle.fluent_bundle.proofs.Asked.{asked, pattern_in}
use Rattle.fluent_bundle.proofs.bundle.FluentBundle.target.Goals as goal

pub returns-in-Pattern-clause-content : goal.returns-in-Pattern-clause-content
unfolding bundle_parts
returns-in-Pattern-clause-content g c =
    let b = meant g.M.MemoizerKind.category g.C.FluentType.shown g.C.FluentType.alike g.F.FluentFunction.answer g.G.FluentFormatter.formatted g.T.Transform.changed c.args.self.now in
    ap (λ f. pattern_in (found_view f)) (sym c.in-Pattern.is) ∙ asked b c.args.id.now (attribute_of c.args.name.now) _ (c.by_id.ensures.content g.F.FluentFunction.answer)

pub returns-in-Unknown-clause-content : goal.returns-in-Unknown-clause-content
unfolding bundle_parts
returns-in-Unknown-clause-content g c =
    let b = meant g.M.MemoizerKind.category g.C.FluentType.shown g.C.FluentType.alike g.F.FluentFunction.answer g.G.FluentFormatter.formatted g.T.Transform.changed c.args.self.now in
    ap (λ f. pattern_in (found_view f)) (sym c.in-Unknown.is) ∙ asked b c.args.id.now (attribute_of c.args.name.now) _ (c.by_id.ensures.content g.F.FluentFunction.answer)

pub returns-in-WithoutValue-clause-content : goal.returns-in-WithoutValue-clause-content
unfolding bundle_parts
returns-in-WithoutValue-clause-content g c =
    let b = meant g.M.MemoizerKind.category g.C.FluentType.shown g.C.FluentType.alike g.F.FluentFunction.answer g.G.FluentFormatter.formatted g.T.Transform.changed c.args.self.now in
    ap (λ f. pattern_in (found_view f)) (sym c.in-WithoutValue.is) ∙ asked b c.args.id.now (attribute_of c.args.name.now) _ (c.by_id.ensures.content g.F.FluentFunction.answer)

pub returns-in-Pattern-clause-stored : goal.returns-in-Pattern-clause-stored
unfolding bundle_parts
returns-in-Pattern-clause-stored g c = subst (IsLed (entries_in c.args.self.now)) c.in-Pattern.is c.by_id.ensures.led
