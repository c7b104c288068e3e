use Rattle.std.proofs.Common.{◌≡◌, ◌++◌, drop, map}
use Rattle.fluent_ast.specs.View.{attribute_view}
use Rattle.fluent_places.specs.Places.{of_term, views, attribute_places}
use Rattle.fluent_places.proofs.entries.add_of_term.Given as goal

abbrev pub invariant-loop-attribute : goal.invariant-loop-attribute
invariant-loop-attribute l = views l.places.items ++ attribute_places (of_term l.id.name.now) (map attribute_view (drop l.attribute-index l.attributes)) ≡ views l.initial.places.items ++ attribute_places (of_term l.id.name.now) (map attribute_view l.attributes)
