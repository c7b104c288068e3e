use Rattle.std.proofs.Common.{[], Some, ap, subst, sym, ◌∙◌}
use Rattle.std.specs.Option.{option_map}
use Rattle.fluent_ast.specs.View.{pattern_view}
use Rattle.fluent_resolver_state.specs.Status.{arguments_view}
use Rattle.fluent_bundle.specs.BundleView.{meant}
use Rattle.fluent_bundle.specs.Formatted.{AddsAll, AddsPrefix, value_errors, value_text}
use Rattle.fluent_bundle.proofs.Parts.{adds_none, prefix_of_all}
use Rattle.fluent_bundle.proofs.bundle.FluentBundle.format_optional.Goals as goal

pub returns-in-Ok-clause-text : goal.returns-in-Ok-clause-text
returns-in-Ok-clause-text g c =
    let b = meant g.M.MemoizerKind.category g.C.FluentType.shown g.C.FluentType.alike g.F.FluentFunction.answer g.G.FluentFormatter.formatted g.T.Transform.changed c.args.self.now in
    let args = arguments_view g.C.FluentType.content c.args.args in
    ap (λ t. Some t) c.in-Ok.ensures.whole.text ∙ ap (λ p. value_text b args (option_map pattern_view p)) (sym c.in-Some.is)

pub returns-in-Ok-clause-all : goal.returns-in-Ok-clause-all
returns-in-Ok-clause-all g c =
    let b = meant g.M.MemoizerKind.category g.C.FluentType.shown g.C.FluentType.alike g.F.FluentFunction.answer g.G.FluentFormatter.formatted g.T.Transform.changed c.args.self.now in
    let args = arguments_view g.C.FluentType.content c.args.args in
    subst (λ p. AddsAll (value_errors b args (option_map pattern_view p)) c.args.errors.now.items c.format_pattern.new.errors.items) (sym c.in-Some.is) c.in-Ok.ensures.whole.adds

pub returns-in-Ok-clause-prefix : goal.returns-in-Ok-clause-prefix
returns-in-Ok-clause-prefix g c =
    let b = meant g.M.MemoizerKind.category g.C.FluentType.shown g.C.FluentType.alike g.F.FluentFunction.answer g.G.FluentFormatter.formatted g.T.Transform.changed c.args.self.now in
    let args = arguments_view g.C.FluentType.content c.args.args in
    subst (λ p. AddsPrefix (value_errors b args (option_map pattern_view p)) c.args.errors.now.items c.format_pattern.new.errors.items) (sym c.in-Some.is) c.in-Ok.ensures.prefix

pub returns-in-Err-clause-all : goal.returns-in-Err-clause-all
returns-in-Err-clause-all g c = tt

pub returns-in-Err-clause-prefix : goal.returns-in-Err-clause-prefix
returns-in-Err-clause-prefix g c =
    let b = meant g.M.MemoizerKind.category g.C.FluentType.shown g.C.FluentType.alike g.F.FluentFunction.answer g.G.FluentFormatter.formatted g.T.Transform.changed c.args.self.now in
    let args = arguments_view g.C.FluentType.content c.args.args in
    subst (λ p. AddsPrefix (value_errors b args (option_map pattern_view p)) c.args.errors.now.items c.format_pattern.new.errors.items) (sym c.in-Some.is) c.in-Err.ensures.prefix

pub returns-in-None-clause-text : goal.returns-in-None-clause-text
returns-in-None-clause-text g c =
    let b = meant g.M.MemoizerKind.category g.C.FluentType.shown g.C.FluentType.alike g.F.FluentFunction.answer g.G.FluentFormatter.formatted g.T.Transform.changed c.args.self.now in
    let args = arguments_view g.C.FluentType.content c.args.args in
    ap (λ p. value_text b args (option_map pattern_view p)) (sym c.in-None.is)

pub returns-in-None-clause-all : goal.returns-in-None-clause-all
returns-in-None-clause-all g c =
    let b = meant g.M.MemoizerKind.category g.C.FluentType.shown g.C.FluentType.alike g.F.FluentFunction.answer g.G.FluentFormatter.formatted g.T.Transform.changed c.args.self.now in
    let args = arguments_view g.C.FluentType.content c.args.args in
    subst (λ p. AddsAll (value_errors b args (option_map pattern_view p)) c.args.errors.now.items c.args.errors.now.items) (sym c.in-None.is) (adds_none c.args.errors.now.items)

pub returns-in-None-clause-prefix : goal.returns-in-None-clause-prefix
returns-in-None-clause-prefix g c =
    let b = meant g.M.MemoizerKind.category g.C.FluentType.shown g.C.FluentType.alike g.F.FluentFunction.answer g.G.FluentFormatter.formatted g.T.Transform.changed c.args.self.now in
    let args = arguments_view g.C.FluentType.content c.args.args in
    subst (λ p. AddsPrefix (value_errors b args (option_map pattern_view p)) c.args.errors.now.items c.args.errors.now.items) (sym c.in-None.is) (prefix_of_all [] c.args.errors.now.items c.args.errors.now.items (adds_none c.args.errors.now.items))
