use Rattle.std.proofs.Common.{inl, inr, refl, sym}
use Rattle.fluent_places.specs.Asked.{texts}
use Rattle.fluent_places.proofs.Shared.{listed_of, ok_map}
use Rattle.fluent_places.proofs.asking.note.Goals as goal

pub returns-in-Some : goal.returns-in-Some
returns-in-Some g c =
    let known = c.in-Some.known.now.keys in
    let is = listed_of (g.B.GetEntry.named c.args.bundle.now) c.args.asked.now c.args.place.now known c.requires (sym c.in-Some.ensures) in
    ok_map c.add_names.result _ _ (λ adds. inr (refl, (texts known, is.0, adds))) c.add_names.ensures

pub returns-in-None : goal.returns-in-None
returns-in-None g c = ok_map c.note_pattern.result _ _ (λ notes. inl notes) c.note_pattern.ensures
