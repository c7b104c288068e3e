use mathlib.Core.Bool.{true≢false}
use Rattle.std.proofs.Common.{◌≡◌, map, inl, inr, refl, sym, ap, subst, ◌∙◌, arith}
use Rattle.std.proofs.lemmas.List.{take_all}
use Rattle.fluent_ast.specs.View.{pattern_view}
use Rattle.fluent_places.specs.Places.{place_view}
use Rattle.fluent_places.specs.Needs.{needs, IsAmong}
use Rattle.fluent_places.specs.NeedsView.{need_view, IsOfPlace, RefersIn}
use Rattle.fluent_places.specs.Facts.Growing.{among_at, so_far}
use Rattle.fluent_places.proofs.listing.refers_to.Goals as goal

pub loop-need-preserved : goal.loop-need-preserved
loop-need-preserved c = λ h. elim (so_far need_view _ _ _ _ c.loop-need-test.true c.need-item.is h.1) [
  | inl old ↦ c.loop-need.invariant (h.0, old, h.2)
  | inr same ↦ true≢false (sym (c.is_of_place.ensures.1 (subst (IsOfPlace (place_view c.args.place.now)) same h.2)) ∙ c.if-is_of_place.false)
]

pub returns-then-is_of_place : goal.returns-then-is_of_place
returns-then-is_of_place c =
    let items = c.deref-need-items.result.now in
    let same : map need_view items ≡ needs (pattern_view c.args.pattern.now) = ap (λ l. map need_view l) c.deref-need-items.ensures.value ∙ c.in_ok-list.ensures in
    let n = need_view c.need-item.result in (
      λ yes. (n, subst (IsAmong n) same (among_at need_view items c.loop-need.need-index _ c.loop-need-test.true c.need-item.is), c.is_of_place.ensures.0 c.if-is_of_place.true),
      λ h. refl,
    )

pub returns : goal.returns
returns c =
    let items = c.deref-need-items.result.now in
    let same : map need_view items ≡ needs (pattern_view c.args.pattern.now) = ap (λ l. map need_view l) c.deref-need-items.ensures.value ∙ c.in_ok-list.ensures in (
      λ yes. absurd (true≢false (sym yes)),
      λ h. absurd (c.loop-need.invariant (subst (λ ns. RefersIn ns (place_view c.args.place.now)) (sym (ap (λ l. map need_view l) (take_all c.loop-need.need-index items (omega (arith, c.loop-need-test.false))) ∙ same)) h)),
    )
