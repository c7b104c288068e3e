use Rattle.std.proofs.Common.{◌≡◌, ◌++◌, drop, map}
use Rattle.fluent_ast.specs.Tree.{pattern_of}
use Rattle.fluent_ast.specs.View.{element_view}
use Rattle.fluent_ast.specs.References.{inlines_view, nameds_view, variants_view}
use Rattle.fluent_patterns.specs.Choices.{choices, choices_in, in_named, in_positional, in_variants}
use Rattle.fluent_patterns.proofs.choices.+choices.Given as goal

abbrev pub invariant-add_pattern-loop-element : goal.invariant-add_pattern-loop-element
invariant-add_pattern-loop-element l =
    choices_in l.list.items ++ choices (pattern_of (map element_view (drop l.element-index l.element-items)))
    ≡ choices_in l.initial.list.items ++ choices (pattern_of (map element_view l.element-items))

abbrev pub invariant-add_variants-loop-variant : goal.invariant-add_variants-loop-variant
invariant-add_variants-loop-variant l =
    choices_in l.list.items ++ in_variants (variants_view (drop l.variant-index l.variants))
    ≡ choices_in l.initial.list.items ++ in_variants (variants_view l.variants)

abbrev pub invariant-add_positional-loop-argument : goal.invariant-add_positional-loop-argument
invariant-add_positional-loop-argument l =
    choices_in l.list.items ++ in_positional (inlines_view (drop l.argument-index l.positional))
    ≡ choices_in l.initial.list.items ++ in_positional (inlines_view l.positional)

abbrev pub invariant-add_named-loop-argument : goal.invariant-add_named-loop-argument
invariant-add_named-loop-argument l =
    choices_in l.list.items ++ in_named (nameds_view (drop l.argument-index l.named))
    ≡ choices_in l.initial.list.items ++ in_named (nameds_view l.named)
