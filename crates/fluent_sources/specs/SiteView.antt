-- Where the code says that a value or an attribute stands.
use Rattle.std.specs.Prelude.{List, map}
use Rattle.fluent_places.specs.Places.{place_view}
use Rattle.fluent_sources.specs.Sites.{Offsets, Site}
use Rattle.fluent_sources.specs.declared.sites.Offsets as offsets
use Rattle.fluent_sources.specs.declared.sites.Site as code

abbrev pub offsets_view : offsets.Offsets → Offsets
offsets_view o = record { references = o.references.items; selects = o.selects.items; variants = o.variants.items }

abbrev pub site_view : code.Site → Site
site_view s = record { place = place_view s.place; at = s.at; offsets = offsets_view s.offsets }

abbrev pub site_views : List code.Site → List Site
site_views xs = map site_view xs
