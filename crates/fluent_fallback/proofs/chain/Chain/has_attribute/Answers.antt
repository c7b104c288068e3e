use Rattle.std.proofs.Common.{rules, ◌≡◌, ◌∙◌, sym, ap, is_some, Some}
use Rattle.fluent_bundle.specs.BundleView.{attribute_at, meant}
use Rattle.fluent_fallback.specs.Chain.{bundles_of, pattern_of}
use Rattle.fluent_fallback.proofs.First.{index-map, is_some-position}
use Rattle.fluent_fallback.proofs.chain.Chain.has_attribute.Goals as goal

pub returns : goal.returns
returns g c =
    let of = meant g.M.MemoizerKind.category g.C.FluentType.shown g.C.FluentType.alike g.F.FluentFunction.answer g.G.FluentFormatter.formatted g.T.Transform.changed in
    let found : c.is_some.result ≡ is_some c.find_attribute.result = search rules in
    let index = c.find_attribute.ensures ∙ sym (index-map of (attribute_at c.args.id.now c.args.name.now) (bundles_of c.args.self.now)) in
    found ∙ ap is_some index ∙ is_some-position (λ b. is_some (pattern_of of c.args.id.now (Some c.args.name) b)) 0 (bundles_of c.args.self.now)
