use Rattle.std.proofs.Common.{◌≡◌, ◌++◌, drop, map}
use Rattle.fluent_ast.specs.View.{entry_view}
use Rattle.fluent_sources.specs.Sites.{sites_from}
use Rattle.fluent_sources.specs.SiteView.{site_views}
use Rattle.fluent_sources.proofs.sites.sites_from.Given as goal

abbrev pub invariant-loop-i : goal.invariant-loop-i
invariant-loop-i l =
    site_views l.list.items ++ sites_from l.source (drop l.i l.starts) (map entry_view (drop l.i l.entries))
    ≡ sites_from l.source l.starts (map entry_view l.entries)
