use Rattle.std.proofs.Common.{◌≡◌, ◌++◌, drop, map}
use Rattle.fluent_ast.specs.Tree.{pattern_of}
use Rattle.fluent_ast.specs.View.{element_view}
use Rattle.fluent_ast.specs.References.{inlines_view, variants_view}
use Rattle.fluent_places.specs.Asked.{texts}
use Rattle.fluent_patterns.specs.Shown.{in_inlines, in_variants, shown}
use Rattle.fluent_patterns.proofs.shown.+shown.Given as goal

abbrev pub invariant-add_pattern-loop-element : goal.invariant-add_pattern-loop-element
invariant-add_pattern-loop-element l =
    texts l.names.items ++ shown l.wanted (pattern_of (map element_view (drop l.element-index l.element-items)))
    ≡ texts l.initial.names.items ++ shown l.wanted (pattern_of (map element_view l.element-items))

abbrev pub invariant-add_variants-loop-variant : goal.invariant-add_variants-loop-variant
invariant-add_variants-loop-variant l =
    texts l.names.items ++ in_variants l.wanted (variants_view (drop l.variant-index l.variants))
    ≡ texts l.initial.names.items ++ in_variants l.wanted (variants_view l.variants)

abbrev pub invariant-add_inlines-loop-inline : goal.invariant-add_inlines-loop-inline
invariant-add_inlines-loop-inline l =
    texts l.names.items ++ in_inlines l.wanted (inlines_view (drop l.inline-index l.inlines))
    ≡ texts l.initial.names.items ++ in_inlines l.wanted (inlines_view l.inlines)
