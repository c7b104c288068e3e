use Rattle.std.proofs.Common.{rules, refl, subst}
use Rattle.std.specs.List.{AllByRecursion}
use Rattle.std.proofs.lemmas.List.{take_all}
use Rattle.fluent_places.specs.Inside.Sharing.{IsKnown}
use Rattle.fluent_places.specs.Places.{place_view}
use Rattle.fluent_places.proofs.Shared.{all_asked, all_known, known_more, listed_none}
use Rattle.fluent_places.proofs.settling.variables_at.Goals as goal

pub settle_groups-requires : goal.settle_groups-requires
settle_groups-requires g c κs = ((refl, tt), listed_none (g.B.GetEntry.named c.args.bundle.now) c.new-asked.result c.new-asked.ensures)

pub loop-place-preserved : goal.loop-place-preserved
loop-place-preserved g c = record {
  listed = c.in_ok-settle.ensures.listed;
  known = known_more c.settle.new.asked c.args.places.now c.loop-place.place-index _ c.loop-place-test.true (search rules)
      (all_known c.loop-place.asked c.settle.new.asked _ c.in_ok-settle.ensures.kept c.loop-place.invariant.known) c.in_ok-settle.ensures.known;
}

pub returns : goal.returns
returns g c = all_asked (g.B.GetEntry.named c.args.bundle.now) c.loop-place.asked c.args.places.now c.loop-place.invariant.listed
    (subst (AllByRecursion (λ q. IsKnown c.loop-place.asked (place_view q))) (take_all c.loop-place.place-index c.args.places.now c.loop-place-test.false) c.loop-place.invariant.known)
