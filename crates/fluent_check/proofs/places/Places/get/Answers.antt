use Rattle.std.proofs.Common.{◌∙◌, ap, subst}
use Rattle.std.specs.List.{slice_get}
use Rattle.std.specs.Option.{option_and_then}
use Rattle.std.specs.Slice.{IsItemAt}
use Rattle.fluent_places.specs.Places.{place_view}
use Rattle.fluent_sources.specs.Standing.{standings}
use Rattle.fluent_check.proofs.PlacesOf.{same_position, seen_at}
use Rattle.fluent_check.proofs.places.Places.get.Goals as goal

pub returns : goal.returns
returns c =
    let p = c.args.self.now in
    seen_at p.list.items c.in-Some.index c.get.result (subst (λ l. IsItemAt l c.in-Some.index c.get.result) c.deref.ensures.value c.get.ensures.lookup)
    ∙ ap (λ o. option_and_then (λ i. slice_get (standings p.list) i) o) (c.in-Some.ensures.index ∙ same_position (place_view c.args.place.now) p.keys.keys)

pub returns-in_default : goal.returns-in_default
returns-in_default c =
    let p = c.args.self.now in
    ap (λ o. option_and_then (λ i. slice_get (standings p.list) i) o) (c.in_default.ensures.index ∙ same_position (place_view c.args.place.now) p.keys.keys)
