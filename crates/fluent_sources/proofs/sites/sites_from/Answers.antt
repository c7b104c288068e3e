use Rattle.std.proofs.Common.{ap, ◌∙◌}
use Rattle.fluent_places.specs.Places.{views}
use Rattle.fluent_sources.specs.SiteView.{site_views}
use Rattle.fluent_sources.proofs.EntrySites.{sites-step}
use Rattle.fluent_sources.proofs.sites.sites_from.Goals as goal

pub loop-i-preserved : goal.loop-i-preserved
loop-i-preserved c =
    sites-step c.args.source.now c.args.starts.now c.args.entries.now c.loop-i.i c.start_of-from.result c.start_of-to.result (views c.deref.result.now) c.deref-in-loop-i.result.now (site_views c.loop-i.list.items) (site_views c.add_sites.new.list.items) _
    c.loop-i-test.true c.start_of-from.ensures c.start_of-to.ensures (ap views c.deref.ensures.value ∙ c.in_ok-places.ensures) (c.deref-in-loop-i.ensures.value ∙ c.in_ok-marks.ensures) c.in_ok-add_sites.ensures c.loop-i.invariant
