use Rattle.std.proofs.Common.{◌≡◌, ap, sym, subst, ◌∙◌, rules}
use Rattle.std.proofs.lemmas.List.{drop_all, nil_from_length}
use Rattle.fluent_ast.specs.References.{in_expression}
use Rattle.fluent_ast.specs.ReferencesOf.{of_element, of_inline, of_inlines, of_nameds, of_variants}
use Rattle.fluent_ast.specs.View.{expression_view}
use Rattle.fluent_references.specs.Links.{past}
use Rattle.fluent_references.specs.CursorSteps.{passed, in_elements, of_variant, of_named, element_in_turn, variant_in_turn, positional_in_turn, named_in_turn}
use Rattle.fluent_references.proofs.Passed.{ended, pattern_passed, select_passed, arguments_passed}
use Rattle.fluent_references.proofs.passing.+passing.Goals as goal

pub pass_arguments-returns : goal.pass_arguments-returns
pass_arguments-returns t c =
    let xs = c.deref.ensures.value in
    let ns = c.deref-2.ensures.value in
    arguments_passed c.args.arguments.now c.args.links.now c.pass_positional.result.now c.pass_named.result.now
    (subst (λ xs. c.pass_positional.result.now ≡ past (of_inlines xs) c.args.links.now) xs c.pass_positional.ensures)
    (subst (λ ns. c.pass_named.result.now ≡ past (of_nameds ns) c.pass_positional.result.now) ns c.pass_named.ensures)

pub pass_expression-returns-then-is_empty : goal.pass_expression-returns-then-is_empty
pass_expression-returns-then-is_empty t c = ended (in_expression (expression_view c.args.expression.now)) c.args.links.now (nil_from_length c.args.links.now (search (rules, c.is_empty.ensures, c.if-is_empty.true)))

pub pass_expression-returns-in-Select : goal.pass_expression-returns-in-Select
pass_expression-returns-in-Select t c =
    let vs = c.deref.ensures.value in
    let between = c.pass_inline-in-Select.result.now in
    select_passed c.args.expression.now c.in-Select.selector c.in-Select.variants c.args.links.now between c.pass_variants.result.now c.in-Select.is c.pass_inline-in-Select.ensures
    (subst (λ vs. c.pass_variants.result.now ≡ past (of_variants vs) between) vs c.pass_variants.ensures)

pub pass_named-loop-argument-preserved : goal.pass_named-loop-argument-preserved
pass_named-loop-argument-preserved t c = passed of_named of_nameds named_in_turn c.args.named.now c.loop-argument.argument-index c.argument-item.result c.loop-argument-test.true c.argument-item.is _ _ _ c.pass_inline-links.ensures c.loop-argument.invariant

pub pass_positional-loop-argument-preserved : goal.pass_positional-loop-argument-preserved
pass_positional-loop-argument-preserved t c = passed of_inline of_inlines positional_in_turn c.args.positional.now c.loop-argument.argument-index c.argument-item.result c.loop-argument-test.true c.argument-item.is _ _ _ c.pass_inline-links.ensures c.loop-argument.invariant

pub pass_variants-loop-variant-preserved : goal.pass_variants-loop-variant-preserved
pass_variants-loop-variant-preserved t c = passed of_variant of_variants variant_in_turn c.args.variants.now c.loop-variant.variant-index c.variant-item.result c.loop-variant-test.true c.variant-item.is _ _ _ c.pass_pattern-links.ensures c.loop-variant.invariant

pub pass_pattern-loop-element-preserved : goal.pass_pattern-loop-element-preserved
pass_pattern-loop-element-preserved t c = passed of_element in_elements element_in_turn c.deref-element-items.result.now c.loop-element.element-index c.element-item.result c.loop-element-test.true c.element-item.is _ _ _ c.pass_element-links.ensures c.loop-element.invariant

pub pass_pattern-returns : goal.pass_pattern-returns
pass_pattern-returns t c =
    let items = c.deref-element-items.result.now in
    pattern_passed c.args.pattern.now c.args.links.now c.loop-element.links.now
    (sym (ap (λ es. past (in_elements es) c.loop-element.links.now) (drop_all c.loop-element.element-index items c.loop-element-test.false))
    ∙ (c.loop-element.invariant
    ∙ ap (λ es. past (in_elements es) c.args.links.now) c.deref-element-items.ensures.value))
