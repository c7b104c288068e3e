use Rattle.std.proofs.Common.{◌∙◌}
use Rattle.fluent_bundle.specs.BundleView.{attribute_at, meant}
use Rattle.fluent_fallback.specs.Chain.{bundles_of}
use Rattle.fluent_fallback.proofs.First.{index-map}
use Rattle.fluent_fallback.proofs.chain.Chain.find_attribute.Goals as goal

pub returns : goal.returns
returns g c =
    let of = meant g.M.MemoizerKind.category g.C.FluentType.shown g.C.FluentType.alike g.F.FluentFunction.answer g.G.FluentFormatter.formatted g.T.Transform.changed in
    c.find.ensures ∙ index-map of (attribute_at c.args.id.now c.args.name.now) (bundles_of c.args.self.now)
