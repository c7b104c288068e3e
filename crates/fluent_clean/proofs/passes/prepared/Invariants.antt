use Rattle.fluent_places.specs.Places.{views}
use Rattle.fluent_clean.specs.Inside.Table.{AreRight}
use Rattle.fluent_clean.specs.Inside.Steps.{IsListing}
use Rattle.fluent_clean.proofs.passes.prepared.Given as goal

abbrev pub invariant-loop-i : goal.invariant-loop-i
invariant-loop-i g l = record {
  right : AreRight (g.B.GetEntry.named l.bundle) l.table.entries;
  listing : IsListing (views l.places) l.table.entries;
}
