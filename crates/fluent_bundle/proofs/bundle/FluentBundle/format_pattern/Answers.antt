use Rattle.fluent_ast.specs.View.{pattern_view}
use Rattle.fluent_bundle.specs.BundleView.{meant}
use Rattle.fluent_resolver_state.specs.Status.{arguments_view}
use Rattle.fluent_bundle.proofs.Givings.{gives_within}
use Rattle.fluent_bundle.proofs.bundle.FluentBundle.format_pattern.Goals as goal

pub returns-clause-within : goal.returns-clause-within
returns-clause-within g c =
    let b = meant g.M.MemoizerKind.category g.C.FluentType.shown g.C.FluentType.alike g.F.FluentFunction.answer g.G.FluentFormatter.formatted g.T.Transform.changed c.args.self.now in
    let args = arguments_view g.C.FluentType.content c.args.args in
    let p = pattern_view c.args.pattern.now in
    gives_within b args p _ _ _ (c.limits_are_kept.ensures b args p) c.format_linked.ensures.whole

pub returns-clause-limit : goal.returns-clause-limit
returns-clause-limit g c =
    let b = meant g.M.MemoizerKind.category g.C.FluentType.shown g.C.FluentType.alike g.F.FluentFunction.answer g.G.FluentFormatter.formatted g.T.Transform.changed c.args.self.now in
    c.limits_are_kept.ensures b (arguments_view g.C.FluentType.content c.args.args) (pattern_view c.args.pattern.now)
