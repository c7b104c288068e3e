use Rattle.std.proofs.Common.{IsTrue, rules, arith}
use Rattle.fluent_places.specs.Places.{place_view}
use Rattle.fluent_clean.proofs.Among.{got_self}
use Rattle.fluent_clean.proofs.Round.{led_all, led_more, round}
use Rattle.fluent_clean.proofs.cycles.is_cycle.Goals as goal

pub loop-place-preserved : goal.loop-place-preserved
loop-place-preserved g c =
    let yes : IsTrue c.in_ok-refers_to.field-0 = search (rules, c.if-not-branch.false) in
    led_more (g.B.GetEntry.named c.args.bundle.now) (place_view c.in-Some.end.now) c.args.places.now c.loop-place.place-index _ c.loop-place.last _ c.loop-place-test.true (got_self c.args.places.now c.loop-place.place-index _ c.loop-place-test.true)
    c.in-Some-pattern_at.ensures (c.in_ok-refers_to.ensures.0 yes) c.loop-place.invariant

pub returns : goal.returns
returns g c = λ yes.
    let named = g.B.GetEntry.named c.args.bundle.now in
    round named c.args.places.now c.in-Some.end.now c.in-Some.ensures.value (led_all named (place_view c.in-Some.end.now) c.args.places.now c.loop-place.place-index _ (omega (arith, c.loop-place-test.false)) c.loop-place.invariant)
