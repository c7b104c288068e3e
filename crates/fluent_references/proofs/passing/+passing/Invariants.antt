use Rattle.std.proofs.Common.{◌≡◌, drop, map}
use Rattle.fluent_ast.specs.Tree.{pattern_of}
use Rattle.fluent_ast.specs.View.{element_view}
use Rattle.fluent_ast.specs.References.{references, in_variants, in_positional, in_named, variants_view, inlines_view, nameds_view}
use Rattle.fluent_references.specs.Links.{past}
use Rattle.fluent_references.proofs.passing.+passing.Given as goal

abbrev pub invariant-pass_pattern-loop-element : goal.invariant-pass_pattern-loop-element
invariant-pass_pattern-loop-element l =
    let left = references (pattern_of (map element_view (drop l.element-index l.element-items))) in
    past left l.links ≡ past (references (pattern_of (map element_view l.element-items))) l.initial.links

abbrev pub invariant-pass_variants-loop-variant : goal.invariant-pass_variants-loop-variant
invariant-pass_variants-loop-variant l =
    let left = in_variants (variants_view (drop l.variant-index l.variants)) in
    past left l.links ≡ past (in_variants (variants_view l.variants)) l.initial.links

abbrev pub invariant-pass_positional-loop-argument : goal.invariant-pass_positional-loop-argument
invariant-pass_positional-loop-argument l =
    let left = in_positional (inlines_view (drop l.argument-index l.positional)) in
    past left l.links ≡ past (in_positional (inlines_view l.positional)) l.initial.links

abbrev pub invariant-pass_named-loop-argument : goal.invariant-pass_named-loop-argument
invariant-pass_named-loop-argument l =
    let left = in_named (nameds_view (drop l.argument-index l.named)) in
    past left l.links ≡ past (in_named (nameds_view l.named)) l.initial.links
