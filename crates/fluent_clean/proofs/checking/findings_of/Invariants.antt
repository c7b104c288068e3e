use Rattle.std.proofs.Common.{map, take}
use Rattle.fluent_places.specs.NeedsView.{need_view}
use Rattle.fluent_places.specs.Places.{place_view}
use Rattle.fluent_clean.specs.Inside.Steps.{Explained}
use Rattle.fluent_clean.proofs.checking.findings_of.Given as goal

abbrev pub invariant-loop-need : goal.invariant-loop-need
invariant-loop-need g l = Explained (g.B.GetEntry.named l.bundle) l.table.entries (place_view l.place) (map need_view l.need-items) (map need_view (take l.need-index l.need-items)) l.findings.items
