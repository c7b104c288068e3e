use Rattle.std.proofs.Common.{◌≡◌, drop, map}
use Rattle.fluent_ast.specs.View.{attribute_view}
use Rattle.fluent_semantics.specs.Bundle.{first_of}
use Rattle.fluent_resolver_state.proofs.found.first_of.Given as goal

-- the first of that name among those left is the first of all, and what is kept of them is left
abbrev pub invariant-loop-attribute : goal.invariant-loop-attribute
invariant-loop-attribute l = record {
  content : first_of l.name (map attribute_view l.attributes) ≡ first_of l.name (map attribute_view (drop l.attribute-index l.attributes));
  kept : l.kept ≡ drop l.attribute-index l.linked;
}
