use Rattle.std.proofs.Common.{◌≡◌, ◌≤◌, ◌++◌, drop, length, map}
use Rattle.fluent_ast.specs.Tree.{pattern_of}
use Rattle.fluent_ast.specs.View.{element_view}
use Rattle.fluent_ast.specs.References.{references, in_variants, in_positional, in_named, variants_view, inlines_view, nameds_view}
use Rattle.fluent_syntax.specs.Listing.{references_view}
use Rattle.fluent_syntax.proofs.listing.+listing.Given as goal

abbrev pub invariant-add_pattern-loop-element : goal.invariant-add_pattern-loop-element
invariant-add_pattern-loop-element l =
    let left = references (pattern_of (map element_view (drop l.element-index l.element-items))) in
    (references_view l.list ++ left ≡ references_view l.initial.list ++ references (pattern_of (map element_view l.element-items)))
    × (length left ≤ length (references (pattern_of (map element_view l.element-items))))

abbrev pub invariant-add_variants-loop-variant : goal.invariant-add_variants-loop-variant
invariant-add_variants-loop-variant l =
    let left = in_variants (variants_view (drop l.variant-index l.variants)) in
    (references_view l.list ++ left ≡ references_view l.initial.list ++ in_variants (variants_view l.variants))
    × (length left ≤ length (in_variants (variants_view l.variants)))

abbrev pub invariant-add_positional-loop-argument : goal.invariant-add_positional-loop-argument
invariant-add_positional-loop-argument l =
    let left = in_positional (inlines_view (drop l.argument-index l.positional)) in
    (references_view l.list ++ left ≡ references_view l.initial.list ++ in_positional (inlines_view l.positional))
    × (length left ≤ length (in_positional (inlines_view l.positional)))

abbrev pub invariant-add_named-loop-argument : goal.invariant-add_named-loop-argument
invariant-add_named-loop-argument l =
    let left = in_named (nameds_view (drop l.argument-index l.named)) in
    (references_view l.list ++ left ≡ references_view l.initial.list ++ in_named (nameds_view l.named))
    × (length left ≤ length (in_named (nameds_view l.named)))
