use Rattle.std.proofs.Common.{rules, ◌≡◌, ◌∙◌, sym, ap, is_some, None}
use Rattle.fluent_bundle.specs.BundleView.{value_at, meant}
use Rattle.fluent_fallback.specs.Chain.{bundles_of, pattern_of}
use Rattle.fluent_fallback.proofs.First.{index-map, is_some-position}
use Rattle.fluent_fallback.proofs.chain.Chain.has_value.Goals as goal

pub returns : goal.returns
returns g c =
    let of = meant g.M.MemoizerKind.category g.C.FluentType.shown g.C.FluentType.alike g.F.FluentFunction.answer g.G.FluentFormatter.formatted g.T.Transform.changed in
    let found : c.is_some.result ≡ is_some c.find_value.result = search rules in
    let index = c.find_value.ensures ∙ sym (index-map of (value_at c.args.id.now) (bundles_of c.args.self.now)) in
    found ∙ ap is_some index ∙ is_some-position (λ b. is_some (pattern_of of c.args.id.now None b)) 0 (bundles_of c.args.self.now)
