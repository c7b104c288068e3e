use Rattle.std.proofs.Common.{◌+◌, suc, map, take, drop, ap}
use Rattle.std.proofs.lemmas.Result.{IfOk-from_err}
use Rattle.fluent_ast.specs.View.{attribute_view}
use Rattle.fluent_bundle.specs.BundleView.{meant}
use Rattle.fluent_bundle.specs.Formatted.{errors_of}
use Rattle.fluent_resolver_state.specs.Status.{arguments_view}
use Rattle.fluent_bundle.proofs.Parts.{all_parts, errors_more, errors_of_done, prefix_at, prefix_of_all, one_more, texts_more, texts_of_done}
use Rattle.fluent_bundle.proofs.bundle.FluentBundle.format_attributes.Goals as goal

pub loop-attribute-preserved : goal.loop-attribute-preserved
loop-attribute-preserved g c =
    let b = meant g.M.MemoizerKind.category g.C.FluentType.shown g.C.FluentType.alike g.F.FluentFunction.answer g.G.FluentFormatter.formatted g.T.Transform.changed c.args.self.now in
    let args = arguments_view g.C.FluentType.content c.args.args in
    let xs = c.args.list.now in
    let i = c.loop-attribute.attribute-index in
    let x = c.attribute-item.result in
    let fits = c.loop-attribute-test.true in
    let more = one_more attribute_view xs i x fits c.attribute-item.is in
    record {
      texts = texts_more b args _ _ _ _ _ (attribute_view x) c.in_ok-push.ensures.items c.loop-attribute.invariant.texts more (ap (λ t. (x.id.name.now, t)) c.in_ok-text.ensures.whole.text);
      errors = errors_more b args (map attribute_view (take i xs)) (map attribute_view (take (i + 1) xs)) (attribute_view x) _ _ _ more c.loop-attribute.invariant.errors c.in_ok-text.ensures.whole.adds;
    }

pub returns-in_err-text-clause-prefix : goal.returns-in_err-text-clause-prefix
returns-in_err-text-clause-prefix g c =
    let b = meant g.M.MemoizerKind.category g.C.FluentType.shown g.C.FluentType.alike g.F.FluentFunction.answer g.G.FluentFormatter.formatted g.T.Transform.changed c.args.self.now in
    let args = arguments_view g.C.FluentType.content c.args.args in
    let xs = c.args.list.now in
    let i = c.loop-attribute.attribute-index in
    let x = c.attribute-item.result in
    let fits = c.loop-attribute-test.true in
    prefix_at b args (map attribute_view xs) (map attribute_view (take i xs)) (map attribute_view (drop (suc i) xs)) (attribute_view x) _ _ _ (all_parts attribute_view xs i x fits c.attribute-item.is) c.loop-attribute.invariant.errors c.in_err-text.ensures.prefix

pub returns-in_err-push-clause-prefix : goal.returns-in_err-push-clause-prefix
returns-in_err-push-clause-prefix g c =
    let b = meant g.M.MemoizerKind.category g.C.FluentType.shown g.C.FluentType.alike g.F.FluentFunction.answer g.G.FluentFormatter.formatted g.T.Transform.changed c.args.self.now in
    let args = arguments_view g.C.FluentType.content c.args.args in
    let xs = c.args.list.now in
    let i = c.loop-attribute.attribute-index in
    let x = c.attribute-item.result in
    let fits = c.loop-attribute-test.true in
    prefix_at b args (map attribute_view xs) (map attribute_view (take i xs)) (map attribute_view (drop (suc i) xs)) (attribute_view x) _ _ _ (all_parts attribute_view xs i x fits c.attribute-item.is) c.loop-attribute.invariant.errors (prefix_of_all (errors_of b args (attribute_view x).1) _ _ c.in_ok-text.ensures.whole.adds)

pub returns-in_err-text-clause-text : goal.returns-in_err-text-clause-text
returns-in_err-text-clause-text g c = IfOk-from_err c.from_residual.result _ c.from_residual.ensures.0

pub returns-in_err-text-clause-all : goal.returns-in_err-text-clause-all
returns-in_err-text-clause-all g c = IfOk-from_err c.from_residual.result _ c.from_residual.ensures.0

pub returns-in_err-push-clause-text : goal.returns-in_err-push-clause-text
returns-in_err-push-clause-text g c = IfOk-from_err c.from_residual-in_err-push.result _ c.from_residual-in_err-push.ensures.0

pub returns-in_err-push-clause-all : goal.returns-in_err-push-clause-all
returns-in_err-push-clause-all g c = IfOk-from_err c.from_residual-in_err-push.result _ c.from_residual-in_err-push.ensures.0

pub returns-clause-text : goal.returns-clause-text
returns-clause-text g c =
    let b = meant g.M.MemoizerKind.category g.C.FluentType.shown g.C.FluentType.alike g.F.FluentFunction.answer g.G.FluentFormatter.formatted g.T.Transform.changed c.args.self.now in
    let args = arguments_view g.C.FluentType.content c.args.args in
    texts_of_done b args c.args.list.now c.loop-attribute.attribute-index _ c.loop-attribute-test.false c.loop-attribute.invariant.texts

pub returns-clause-all : goal.returns-clause-all
returns-clause-all g c =
    let b = meant g.M.MemoizerKind.category g.C.FluentType.shown g.C.FluentType.alike g.F.FluentFunction.answer g.G.FluentFormatter.formatted g.T.Transform.changed c.args.self.now in
    let args = arguments_view g.C.FluentType.content c.args.args in
    errors_of_done b args c.args.list.now c.loop-attribute.attribute-index _ _ c.loop-attribute-test.false c.loop-attribute.invariant.errors

pub returns-clause-prefix : goal.returns-clause-prefix
returns-clause-prefix g c =
    let b = meant g.M.MemoizerKind.category g.C.FluentType.shown g.C.FluentType.alike g.F.FluentFunction.answer g.G.FluentFormatter.formatted g.T.Transform.changed c.args.self.now in
    let args = arguments_view g.C.FluentType.content c.args.args in
    prefix_of_all _ _ _ (errors_of_done b args c.args.list.now c.loop-attribute.attribute-index _ _ c.loop-attribute-test.false c.loop-attribute.invariant.errors)
