use Rattle.fluent_ast.specs.Tree.{is_yes}
use Rattle.fluent_places.specs.Places.{place_same, place_view}
use Rattle.fluent_places.proofs.Gathering.{adds_inserted, place_test}
use Rattle.fluent_places.proofs.asking.add_place.Goals as goal

pub returns : goal.returns
returns c = adds_inserted place_view (λ a b. is_yes (place_same (place_view a) (place_view b))) place_test c.args.place c.args.places.now.keys c.insert.new.self.keys c.in_ok-insert.ensures.keys
