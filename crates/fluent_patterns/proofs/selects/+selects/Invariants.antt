use Rattle.std.proofs.Common.{◌≡◌, [], drop, map}
use Rattle.fluent_ast.specs.Tree.{pattern_of}
use Rattle.fluent_ast.specs.View.{element_view}
use Rattle.fluent_ast.specs.References.{inlines_view, nameds_view, variants_view}
use Rattle.fluent_patterns.specs.CategoryView.{categories_view, category_view}
use Rattle.fluent_patterns.specs.Selects.{after_pattern, after_variants, after_positional, after_named}
use Rattle.fluent_patterns.specs.SelectView.{passed_view, senses_view}
use Rattle.fluent_patterns.proofs.selects.+selects.Given as goal

abbrev pub invariant-pass_pattern-loop-element : goal.invariant-pass_pattern-loop-element
invariant-pass_pattern-loop-element l =
    after_pattern (categories_view l.categories) (pattern_of (map element_view (drop l.element-index l.element-items))) (passed_view l.passed)
    ≡ after_pattern (categories_view l.categories) (pattern_of (map element_view l.element-items)) (passed_view l.initial.passed)

abbrev pub invariant-pass_variants-loop-variant : goal.invariant-pass_variants-loop-variant
invariant-pass_variants-loop-variant l =
    after_variants (categories_view l.categories) (map category_view l.asked) (senses_view l.before) (variants_view (drop l.variant-index l.variants)) (passed_view l.passed)
    ≡ after_variants (categories_view l.categories) (map category_view l.asked) [] (variants_view l.variants) (passed_view l.initial.passed)

abbrev pub invariant-pass_positional-loop-argument : goal.invariant-pass_positional-loop-argument
invariant-pass_positional-loop-argument l =
    after_positional (categories_view l.categories) (inlines_view (drop l.argument-index l.positional)) (passed_view l.passed)
    ≡ after_positional (categories_view l.categories) (inlines_view l.positional) (passed_view l.initial.passed)

abbrev pub invariant-pass_named-loop-argument : goal.invariant-pass_named-loop-argument
invariant-pass_named-loop-argument l =
    after_named (categories_view l.categories) (nameds_view (drop l.argument-index l.named)) (passed_view l.passed)
    ≡ after_named (categories_view l.categories) (nameds_view l.named) (passed_view l.initial.passed)
