use Rattle.std.proofs.Common.{refl, ap, ◌∙◌}
use Rattle.fluent_places.specs.Places.{place_view}
use Rattle.fluent_clean.proofs.Explained.{explains_of, well_of, explained_pushed, explained_well}
use Rattle.fluent_clean.proofs.checking.findings_of.Goals as goal
use Rattle.fluent_clean.proofs.checking.findings_of.Goals.{in-Some+in_ok-push-in-Some, in-None}

pub loop-need-preserved : goal.loop-need-preserved
loop-need-preserved g c =
    let named = g.B.GetEntry.named c.args.bundle.now in
    let known = c.args.table.now.entries in
    let x = place_view c.args.place.now in
    elim c.match-kind_of.branch [
      | in-Some+in_ok-push-in-Some w ↦ explained_pushed named known x _ _ _ _ _ _ c.loop-need-test.true c.need-item.is (ap (λ v. v.items) w.findings-is ∙ w.in_ok-push-in-Some.ensures.items) refl (explains_of named known _ c.kind_of.result _ w.in-Some.is c.kind_of.ensures) c.loop-need.invariant
      | in-None w ↦ explained_well named known x _ _ _ _ _ c.loop-need-test.true c.need-item.is (ap (λ v. v.items) w.findings-is) (well_of named known _ c.kind_of.result w.in-None.is c.kind_of.ensures) c.loop-need.invariant
    ]
