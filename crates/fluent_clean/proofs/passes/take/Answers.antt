use Rattle.std.proofs.Common.{Some, ap, subst, ◌∙◌}
use Rattle.fluent_places.specs.Places.{place_view}
use Rattle.fluent_clean.specs.Inside.Steps.{IsLook, keys_in}
use Rattle.fluent_clean.proofs.Tables.{keys_same, right_updated}
use Rattle.fluent_clean.proofs.passes.take.Goals as goal

pub returns-in_ok-insert : goal.returns-in_ok-insert
returns-in_ok-insert g c =
    let named = g.B.GetEntry.named c.args.bundle.now in
    let old = c.args.table.now.entries in
    let q = c.in-Some.place.now in (
      right_updated named old c.insert.new.self.entries q c.in-Clean.count c.in_ok-insert.ensures.updates.0 c.requires (subst (IsLook named old (place_view q)) c.in-Clean.is c.in_ok-count.ensures),
      ap keys_in c.in_ok-insert.ensures.entries ∙ keys_same old q (Some c.in-Clean.count) _ c.in-Some.ensures.value,
    )
