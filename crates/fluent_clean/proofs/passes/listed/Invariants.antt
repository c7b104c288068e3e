use Rattle.std.proofs.Common.{take}
use Rattle.fluent_places.specs.Places.{views}
use Rattle.fluent_clean.specs.Inside.Steps.{AreUnknown, IsListing}
use Rattle.fluent_clean.proofs.passes.listed.Given as goal

abbrev pub invariant-loop-place : goal.invariant-loop-place
invariant-loop-place l = record {
  listing : IsListing (views (take l.place-index l.places)) l.table.entries;
  unknown : AreUnknown l.table.entries;
}
