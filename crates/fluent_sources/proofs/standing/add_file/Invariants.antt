use Rattle.std.proofs.Common.{◌≡◌, ◌++◌, drop, map}
use Rattle.fluent_sources.specs.SiteView.{site_view}
use Rattle.fluent_sources.specs.Standing.{standings}
use Rattle.fluent_sources.proofs.standing.add_file.Given as goal

abbrev pub invariant-loop-site : goal.invariant-loop-site
invariant-loop-site l =
    standings l.list ++ map (λ site. (l.file.number, site)) (map site_view (drop l.site-index l.site-items))
    ≡ standings l.initial.list ++ map (λ site. (l.file.number, site)) (map site_view l.site-items)
