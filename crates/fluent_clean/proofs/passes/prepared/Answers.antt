use Rattle.fluent_clean.proofs.Tables.{listing_keys}
use Rattle.fluent_clean.proofs.passes.prepared.Goals as goal

pub loop-i-preserved : goal.loop-i-preserved
loop-i-preserved g c = record {
  right = c.in_ok-take.ensures.0;
  listing = listing_keys _ c.loop-i.table.entries _ c.in_ok-take.ensures.1 c.loop-i.invariant.listing;
}
