use Rattle.std.proofs.Common.{◌≡◌, drop, map}
use Rattle.fluent_ast.specs.View.{attribute_view}
use Rattle.fluent_semantics.specs.Bundle.{first_of}
use Rattle.fluent_places.proofs.place.attribute_named.Given as goal

-- the first of that name among those left is the first of all
abbrev pub invariant-loop-attribute : goal.invariant-loop-attribute
invariant-loop-attribute l = first_of l.name (map attribute_view l.attributes) ≡ first_of l.name (map attribute_view (drop l.attribute-index l.attributes))
