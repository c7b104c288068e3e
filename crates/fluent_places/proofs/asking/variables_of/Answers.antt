use Rattle.std.proofs.Common.{◌≡◌, rules, sym, subst}
use Rattle.fluent_places.specs.Asked.{AreAsked, texts}
use Rattle.fluent_places.specs.Places.{place_view}
use Rattle.fluent_places.proofs.asking.variables_of.Goals as goal

pub returns-clause-asked : goal.returns-clause-asked
returns-clause-asked g c =
    let e : c.extend_from_slice.new.self.items ≡ c.in_ok-found.found.names.keys = search (rules, c.in_ok-extend_from_slice.ensures.items, c.as_slice.ensures.keys, c.new-names.ensures.items) in
    subst (λ l. AreAsked (g.B.GetEntry.named c.args.bundle.now) (place_view c.args.place.now) (texts l)) (sym e) c.in_ok-found.ensures.asked
