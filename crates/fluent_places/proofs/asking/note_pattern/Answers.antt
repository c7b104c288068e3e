use Rattle.std.proofs.Common.{ap, map, sym, subst, ◌∙◌}
use Rattle.fluent_semantics.specs.Bundle.{Target}
use Rattle.fluent_places.specs.Places.{place_view, views, place_target}
use Rattle.fluent_places.specs.Asked.{texts}
use Rattle.fluent_places.specs.NeedsView.{need_view}
use Rattle.fluent_places.specs.Inside.Reached.{NotesOf}
use Rattle.fluent_places.proofs.Gathering.{notes_none, none_there, all_noted}
use Rattle.fluent_places.specs.Facts.Targets.{some_there}
use Rattle.fluent_places.proofs.asking.note_pattern.Goals as goal

pub returns-in_default : goal.returns-in_default
returns-in_default g c =
    let xs = views c.args.reached.now.keys in
    let vs = texts c.args.names.now.keys in
    let target : Target = place_target (g.B.GetEntry.named c.args.bundle.now) (place_view c.args.place.now) in
    subst (λ ns. NotesOf ns xs xs vs vs) (sym (none_there target c.in_default.ensures)) (notes_none xs vs)

pub returns : goal.returns
returns g c =
    let named = g.B.GetEntry.named c.args.bundle.now in
    let x = place_view c.args.place.now in
    all_noted c.note_all.result named x _ _ _ _ _ _ (ap (λ l. map need_view l) c.deref.ensures.value ∙ c.in_ok-list.ensures) (some_there (place_target named x) _ c.in-Some.ensures) c.note_all.ensures
