use Rattle.std.proofs.Common.{◌≡◌, ◌∙◌, ap, map}
use Rattle.std.specs.List.{slice_get}
use Rattle.std.specs.Option.{option_and_then}
use Rattle.fluent_bundle.specs.BundleView.{attribute_at, meant}
use Rattle.fluent_fallback.specs.Chain.{index_with, bundles_of}
use Rattle.fluent_catalog.specs.CatalogView.{bundles_in, tags_in}
use Rattle.fluent_catalog.proofs.catalog.Catalog.find_attribute.Goals as goal

pub returns : goal.returns
returns g c =
    let of = meant g.M.MemoizerKind.category g.C.FluentType.shown g.C.FluentType.alike g.F.FluentFunction.answer g.G.FluentFormatter.formatted g.T.Transform.changed in
    let asked : bundles_of c.of.result ≡ bundles_in c.args.self.now = c.of.ensures ∙ c.as_slice.ensures.value in
    c.tag_at.ensures ∙ ap (option_and_then (slice_get (tags_in c.args.self.now))) (c.find_attribute.ensures ∙ ap (λ bundles. index_with (attribute_at c.args.id.now c.args.name.now) (map of bundles)) asked)
