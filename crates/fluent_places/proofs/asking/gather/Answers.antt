use Rattle.std.proofs.Common.{◌≡◌, ◌≤◌, ◌<◌, get_or, length, sym, arith}
use Rattle.std.proofs.lemmas.Option.{get_or_from_slice_get}
use Rattle.fluent_places.specs.Asked.{texts}
use Rattle.fluent_places.specs.Places.{place_view}
use Rattle.fluent_places.proofs.Gathering.{gathered_all, gathered_on}
use Rattle.fluent_places.proofs.asking.gather.Goals as goal

pub loop-next-preserved : goal.loop-next-preserved
loop-next-preserved g c =
    let items = c.loop-next.reached.keys in
    let y = c.place_at-here.result in
    let inside : c.loop-next.next < length items = omega (arith, c.loop-next-test.true, c.len.ensures.len) in
    let at : y ≡ get_or items c.loop-next.next y = sym (get_or_from_slice_get items c.loop-next.next y y c.place_at-here.ensures) in
    gathered_on place_view (g.B.GetEntry.named c.args.bundle.now) (place_view c.args.place.now) c.loop-next.next items y _ _ _ inside at c.loop-next.invariant c.in_ok-note.ensures

pub returns : goal.returns
returns g c =
    let named = g.B.GetEntry.named c.args.bundle.now in
    let items = c.loop-next.reached.keys in
    let after : length items ≤ c.loop-next.next = omega (arith, c.loop-next-test.false, c.len.ensures.len) in
    record {
      asked = gathered_all named (place_view c.args.place.now) c.loop-next.next items (texts c.loop-next.names.keys) after c.loop-next.invariant;
      distinct = c.loop-next.invariant.distinct;
      leads = c.loop-next.invariant.leads;
    }
