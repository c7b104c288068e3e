use Rattle.std.proofs.lemmas.Result.{IfOk-from_err}
use Rattle.std.specs.Option.{option_map}
use Rattle.fluent_ast.specs.View.{pattern_view}
use Rattle.fluent_bundle.specs.BundleView.{meant}
use Rattle.fluent_bundle.specs.Formatted.{value_errors}
use Rattle.fluent_resolver_state.specs.Status.{arguments_view}
use Rattle.fluent_bundle.proofs.Parts.{parts_all, parts_prefix, parts_texts, prefix_first, prefix_of_all}
use Rattle.fluent_bundle.proofs.bundle.FluentBundle.format_parts.Goals as goal

pub returns-in_err-value-clause-prefix : goal.returns-in_err-value-clause-prefix
returns-in_err-value-clause-prefix g c = prefix_first _ _ _ _ c.in_err-value.ensures.prefix

pub returns-in_err-attributes-clause-prefix : goal.returns-in_err-attributes-clause-prefix
returns-in_err-attributes-clause-prefix g c =
    let b = meant g.M.MemoizerKind.category g.C.FluentType.shown g.C.FluentType.alike g.F.FluentFunction.answer g.G.FluentFormatter.formatted g.T.Transform.changed c.args.self.now in
    let args = arguments_view g.C.FluentType.content c.args.args in
    let es = value_errors b args (option_map pattern_view c.args.message.now.value) in
    parts_prefix b args es _ _ _ _ _ c.as_slice.ensures.value c.in_ok-value.ensures.all c.in_err-attributes.ensures.prefix

pub returns-clause-all : goal.returns-clause-all
returns-clause-all g c =
    let b = meant g.M.MemoizerKind.category g.C.FluentType.shown g.C.FluentType.alike g.F.FluentFunction.answer g.G.FluentFormatter.formatted g.T.Transform.changed c.args.self.now in
    let args = arguments_view g.C.FluentType.content c.args.args in
    let es = value_errors b args (option_map pattern_view c.args.message.now.value) in
    parts_all b args es _ _ _ _ _ c.as_slice.ensures.value c.in_ok-value.ensures.all c.in_ok-attributes.ensures.all

pub returns-clause-prefix : goal.returns-clause-prefix
returns-clause-prefix g c =
    let b = meant g.M.MemoizerKind.category g.C.FluentType.shown g.C.FluentType.alike g.F.FluentFunction.answer g.G.FluentFormatter.formatted g.T.Transform.changed c.args.self.now in
    let args = arguments_view g.C.FluentType.content c.args.args in
    let es = value_errors b args (option_map pattern_view c.args.message.now.value) in
    prefix_of_all _ _ _ (parts_all b args es _ _ _ _ _ c.as_slice.ensures.value c.in_ok-value.ensures.all c.in_ok-attributes.ensures.all)

pub returns-in_err-value-clause-text : goal.returns-in_err-value-clause-text
returns-in_err-value-clause-text g c = IfOk-from_err c.from_residual.result _ c.from_residual.ensures.0

pub returns-in_err-value-clause-all : goal.returns-in_err-value-clause-all
returns-in_err-value-clause-all g c = IfOk-from_err c.from_residual.result _ c.from_residual.ensures.0

pub returns-in_err-attributes-clause-text : goal.returns-in_err-attributes-clause-text
returns-in_err-attributes-clause-text g c = IfOk-from_err c.from_residual-in_err-attributes.result _ c.from_residual-in_err-attributes.ensures.0

pub returns-in_err-attributes-clause-all : goal.returns-in_err-attributes-clause-all
returns-in_err-attributes-clause-all g c = IfOk-from_err c.from_residual-in_err-attributes.result _ c.from_residual-in_err-attributes.ensures.0

pub returns-clause-text : goal.returns-clause-text
returns-clause-text g c =
    let b = meant g.M.MemoizerKind.category g.C.FluentType.shown g.C.FluentType.alike g.F.FluentFunction.answer g.G.FluentFormatter.formatted g.T.Transform.changed c.args.self.now in
    let args = arguments_view g.C.FluentType.content c.args.args in
    parts_texts b args c.in_ok-value.value (option_map pattern_view c.args.message.now.value) _ _ _ c.as_slice.ensures.value c.in_ok-value.ensures.text c.in_ok-attributes.ensures.text
