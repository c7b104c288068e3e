use Rattle.std.proofs.Common.{◌≡◌, map, take}
use Rattle.fluent_ast.specs.View.{element_view, variant_view, inline_view, named_view}
use Rattle.fluent_ast.proofs.same.+same.Given as goal

abbrev pub invariant-same_elements-elements : goal.invariant-same_elements-elements
invariant-same_elements-elements l = map element_view (take l.i l.a) ≡ map element_view (take l.i l.b)

abbrev pub invariant-same_variants-variants : goal.invariant-same_variants-variants
invariant-same_variants-variants l = map variant_view (take l.i l.a) ≡ map variant_view (take l.i l.b)

abbrev pub invariant-same_inlines-inlines : goal.invariant-same_inlines-inlines
invariant-same_inlines-inlines l = map inline_view (take l.i l.a) ≡ map inline_view (take l.i l.b)

abbrev pub invariant-same_nameds-nameds : goal.invariant-same_nameds-nameds
invariant-same_nameds-nameds l = map named_view (take l.i l.a) ≡ map named_view (take l.i l.b)
