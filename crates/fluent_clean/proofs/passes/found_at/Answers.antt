use Rattle.std.proofs.Common.{◌≡◌, Some, None, ap, rules, arith}
use Rattle.fluent_places.specs.Places.{place_view}
use Rattle.fluent_clean.specs.Findings.{IsRight}
use Rattle.fluent_clean.specs.Inside.Table.{known_of}
use Rattle.fluent_clean.specs.Inside.Steps.{Looked, untaken}
use Rattle.fluent_clean.proofs.Tables.{less_unknown, right_updated, listing_same}
use Rattle.fluent_clean.proofs.passes.found_at.Goals as goal

pub returns-in-Done : goal.returns-in-Done
returns-in-Done g c =
    let known = c.loop-table.table.entries in
    let looked : Looked (g.B.GetEntry.named c.args.bundle.now) c.args.limit known known c.in-Done.findings.items = search (rules, c.in_ok-findings.ensures, c.in-Done.is) in
    (known, c.loop-table.invariant.listing, looked)

pub loop-table-smaller : goal.loop-table-smaller
loop-table-smaller g c =
    let unknown : known_of c.loop-table.table.entries (place_view c.in-Clean.place) ≡ Some None = search (rules, c.in_ok-findings.ensures, c.in-Clean.is) in
    omega (arith, ap untaken c.in_ok-insert-in-Clean.ensures.entries, less_unknown c.loop-table.table.entries c.in-Clean.place c.in-Clean.count unknown)

pub loop-table-preserved : goal.loop-table-preserved
loop-table-preserved g c =
    let unknown : known_of c.loop-table.table.entries (place_view c.in-Clean.place) ≡ Some None = search (rules, c.in_ok-findings.ensures, c.in-Clean.is) in
    let right : IsRight (g.B.GetEntry.named c.args.bundle.now) (place_view c.in-Clean.place) c.in-Clean.count = search (rules, c.in_ok-findings.ensures, c.in-Clean.is) in
    record {
      right = right_updated _ c.loop-table.table.entries _ c.in-Clean.place c.in-Clean.count c.in_ok-insert-in-Clean.ensures.updates.0 c.loop-table.invariant.right right;
      listing = listing_same _ c.loop-table.table.entries _ c.in-Clean.place (Some c.in-Clean.count) None unknown c.in_ok-insert-in-Clean.ensures.entries c.loop-table.invariant.listing;
    }
