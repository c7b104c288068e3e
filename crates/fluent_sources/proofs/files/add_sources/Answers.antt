use Rattle.std.proofs.Common.{arith, length, refl, subst}
use Rattle.std.specs.Slice.{IsItemAt}
use Rattle.fluent_sources.specs.Reading.{junk_read}
use Rattle.fluent_sources.proofs.Added.{files_more, ranges_at}
use Rattle.fluent_sources.proofs.files.add_sources.Goals as goal

pub loop-index-preserved : goal.loop-index-preserved
loop-index-preserved c =
    let sources = c.args.sources.now in
    let i = c.loop-index.index in
    files_more c.deref-resource-items.result.now (junk_read sources) i c.resource-item.result c.loop-index.files.items c.push.new.self.items _ _ c.loop-index-test.true c.resource-item.is c.in_ok-push.ensures.items
    (omega (arith, c.len-number.ensures, c.loop-index.files.ok.0))
    (ranges_at sources.unreadable.items i c.get.result (subst (λ l. IsItemAt l i c.get.result) c.deref.ensures.value c.get.ensures.lookup))
    c.in_ok-sites_of.ensures refl c.loop-index.invariant
