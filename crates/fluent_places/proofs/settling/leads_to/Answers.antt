use Rattle.std.proofs.Common.{◌≡◌, map, sym, ap, ◌∙◌}
use Rattle.fluent_places.specs.Places.{place_view, place_target}
use Rattle.fluent_places.specs.Inside.Reached.{needs_at, needs_there}
use Rattle.fluent_places.specs.NeedsView.{need_view}
use Rattle.fluent_places.specs.Facts.Growing.{among_at}
use Rattle.fluent_places.specs.Facts.Targets.{some_there}
use Rattle.fluent_places.proofs.Shared.{leads_by}
use Rattle.fluent_places.proofs.settling.leads_to.Goals as goal

pub returns-then-is_of_list : goal.returns-then-is_of_list
returns-then-is_of_list g c =
    let named = g.B.GetEntry.named c.args.bundle.now in
    let y = place_view c.args.place.now in
    let items = c.deref-need-items.result.now in
    let same : map need_view items ≡ needs_at named y =
    ap (λ l. map need_view l) c.deref-need-items.ensures.value ∙ (c.in_ok-list.ensures ∙ sym (ap needs_there (some_there (place_target named y) _ c.in-Some.ensures))) in
    λ yes. leads_by named c.args.asked.now y c.args.index (need_view c.need-item.result) (map need_view items) same
    (among_at need_view items c.loop-need.need-index _ c.loop-need-test.true c.need-item.is) (c.is_of_list.ensures c.if-is_of_list.true)
