use Rattle.std.proofs.Common.{◌≡◌, map, take}
use Rattle.fluent_ast.specs.View.{attribute_view}
use Rattle.fluent_ast.proofs.same_entries.same_attributes.Given as goal

abbrev pub invariant-attributes : goal.invariant-attributes
invariant-attributes l = map attribute_view (take l.i l.a) ≡ map attribute_view (take l.i l.b)
