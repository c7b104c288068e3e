use Rattle.fluent_places.specs.Places.{views}
use Rattle.fluent_clean.specs.Inside.Table.{AreRight}
use Rattle.fluent_clean.specs.Inside.Steps.{IsListing, untaken}
use Rattle.fluent_clean.proofs.passes.found_at.Given as goal

abbrev pub invariant-loop-table : goal.invariant-loop-table
invariant-loop-table g l = record {
  right : AreRight (g.B.GetEntry.named l.bundle) l.table.entries;
  listing : IsListing (views l.places) l.table.entries;
}

abbrev pub decreases-loop-table : goal.decreases-loop-table
decreases-loop-table g l = untaken l.table.entries
