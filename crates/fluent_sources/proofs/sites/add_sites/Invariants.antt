use Rattle.std.proofs.Common.{◌≡◌, ◌++◌, drop}
use Rattle.fluent_places.specs.Places.{views}
use Rattle.fluent_sources.specs.Sites.{sites_at}
use Rattle.fluent_sources.specs.SiteView.{site_views}
use Rattle.fluent_sources.proofs.sites.add_sites.Given as goal

abbrev pub invariant-loop-place : goal.invariant-loop-place
invariant-loop-place l =
    site_views l.list.items ++ sites_at l.start l.at (views (drop l.place-index l.places)) l.rest
    ≡ site_views l.initial.list.items ++ sites_at l.start l.start (views l.places) l.marks
