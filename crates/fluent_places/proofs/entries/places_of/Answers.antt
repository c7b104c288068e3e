use Rattle.fluent_places.proofs.PlaceLists.{entry_more, entries_end}
use Rattle.fluent_places.proofs.entries.places_of.Goals as goal

pub loop-entry-preserved : goal.loop-entry-preserved
loop-entry-preserved c = entry_more _ _ _ c.loop-entry.places c.add_entry.new.places _ c.loop-entry-test.true c.entry-item.is c.loop-entry.invariant c.in_ok-add_entry.ensures

pub returns : goal.returns
returns c = entries_end _ _ _ _ c.loop-entry-test.false c.loop-entry.invariant
