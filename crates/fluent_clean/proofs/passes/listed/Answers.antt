use Rattle.std.proofs.Common.{rules}
use Rattle.fluent_clean.proofs.Tables.{listing_more, unknown_updated}
use Rattle.fluent_clean.proofs.passes.listed.Goals as goal

pub loop-place-preserved : goal.loop-place-preserved
loop-place-preserved c = record {
  listing = listing_more c.args.places.now c.loop-place.place-index _ c.loop-place.table.entries c.insert.new.self.entries c.loop-place-test.true (search rules) c.in_ok-insert.ensures.entries c.loop-place.invariant.listing;
  unknown = unknown_updated c.loop-place.table.entries c.insert.new.self.entries _ c.in_ok-insert.ensures.updates.0 c.loop-place.invariant.unknown;
}
