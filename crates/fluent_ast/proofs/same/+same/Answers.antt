use Rattle.std.proofs.Common.{◌≡◌, false, rules}
use Rattle.fluent_ast.specs.declared.ast.Expression.{the_lemmas}
use Rattle.fluent_ast.specs.View.{element_view, variant_view, inline_view, named_view}
use Rattle.fluent_ast.proofs.Alike.{alike_more, alike_all, unlike_at, unlike_length}
use Rattle.fluent_ast.proofs.Inverse.{select_alike, pattern_alike, arguments_alike, arguments_differ}
use Rattle.fluent_ast.proofs.same.+same.Goals as goal

pub same_expression-returns-then-same_inline : goal.same_expression-returns-then-same_inline
same_expression-returns-then-same_inline t c =
    let x = c.in-Select-Select in
    select_alike _ _ _ _ _ _ _ _ _ x.is-0 x.is-1 c.deref.ensures.value c.deref-then-same_inline.ensures.value (c.same_inline-in-Select-Select.ensures.0 (search rules)) c.same_variants.ensures

pub same_pattern-returns : goal.same_pattern-returns
same_pattern-returns t c = pattern_alike _ _ _ _ _ c.deref.ensures.value c.deref-2.ensures.value c.same_elements.ensures

pub same_arguments-returns-then-same_inlines : goal.same_arguments-returns-then-same_inlines
same_arguments-returns-then-same_inlines t c =
    arguments_alike _ _ _ _ _ _ _ c.deref.ensures.value c.deref-2.ensures.value c.deref-then-same_inlines.ensures.value c.deref-then-same_inlines-2.ensures.value (c.same_inlines.ensures.0 (search rules)) c.same_nameds.ensures

pub same_arguments-returns-else-same_inlines : goal.same_arguments-returns-else-same_inlines
same_arguments-returns-else-same_inlines t c =
    (λ w. absurd (let h : c.same_inlines.result ≡ false = c.if-same_inlines.false in search rules), λ k. c.same_inlines.ensures.1 (arguments_differ _ _ _ _ c.deref.ensures.value c.deref-2.ensures.value k))

pub same_elements-returns-then-a-b : goal.same_elements-returns-then-a-b
same_elements-returns-then-a-b t c = unlike_length element_view _ _ c.if-a-b.true

pub same_elements-returns-then-not-same_element : goal.same_elements-returns-then-not-same_element
same_elements-returns-then-not-same_element t c = search (rules, unlike_at)

pub same_elements-elements-preserved : goal.same_elements-elements-preserved
same_elements-elements-preserved t c = search (rules, alike_more)

pub same_elements-returns : goal.same_elements-returns
same_elements-returns t c = alike_all element_view _ _ _ c.elements-test.false c.if-a-b.false c.elements.invariant

pub same_variants-returns-then-a-b : goal.same_variants-returns-then-a-b
same_variants-returns-then-a-b t c = unlike_length variant_view _ _ c.if-a-b.true

pub same_variants-returns-then-not-same_variant : goal.same_variants-returns-then-not-same_variant
same_variants-returns-then-not-same_variant t c = search (rules, unlike_at)

pub same_variants-variants-preserved : goal.same_variants-variants-preserved
same_variants-variants-preserved t c = search (rules, alike_more)

pub same_variants-returns : goal.same_variants-returns
same_variants-returns t c = alike_all variant_view _ _ _ c.variants-test.false c.if-a-b.false c.variants.invariant

pub same_inlines-returns-then-a-b : goal.same_inlines-returns-then-a-b
same_inlines-returns-then-a-b t c = unlike_length inline_view _ _ c.if-a-b.true

pub same_inlines-returns-then-not-same_inline : goal.same_inlines-returns-then-not-same_inline
same_inlines-returns-then-not-same_inline t c = search (rules, unlike_at)

pub same_inlines-inlines-preserved : goal.same_inlines-inlines-preserved
same_inlines-inlines-preserved t c = search (rules, alike_more)

pub same_inlines-returns : goal.same_inlines-returns
same_inlines-returns t c = alike_all inline_view _ _ _ c.inlines-test.false c.if-a-b.false c.inlines.invariant

pub same_nameds-returns-then-a-b : goal.same_nameds-returns-then-a-b
same_nameds-returns-then-a-b t c = unlike_length named_view _ _ c.if-a-b.true

pub same_nameds-returns-then-not-same_named : goal.same_nameds-returns-then-not-same_named
same_nameds-returns-then-not-same_named t c = search (rules, unlike_at)

pub same_nameds-nameds-preserved : goal.same_nameds-nameds-preserved
same_nameds-nameds-preserved t c = search (rules, alike_more)

pub same_nameds-returns : goal.same_nameds-returns
same_nameds-returns t c = alike_all named_view _ _ _ c.nameds-test.false c.if-a-b.false c.nameds.invariant

pub same_element-returns-in-TextElement-TextElement : goal.same_element-returns-in-TextElement-TextElement
same_element-returns-in-TextElement-TextElement t c = search (rules, the_lemmas)

pub same_element-returns-in-Placeable-Placeable : goal.same_element-returns-in-Placeable-Placeable
same_element-returns-in-Placeable-Placeable t c = search (rules, the_lemmas)

pub same_element-returns-in_default : goal.same_element-returns-in_default
same_element-returns-in_default t c = search (rules, the_lemmas)

pub same_element-returns-in_default-2 : goal.same_element-returns-in_default-2
same_element-returns-in_default-2 t c = search (rules, the_lemmas)

pub same_expression-returns-in-Inline-Inline : goal.same_expression-returns-in-Inline-Inline
same_expression-returns-in-Inline-Inline t c = search (rules, the_lemmas)

pub same_expression-returns-else-same_inline : goal.same_expression-returns-else-same_inline
same_expression-returns-else-same_inline t c = search (rules, the_lemmas)

pub same_expression-returns-in_default : goal.same_expression-returns-in_default
same_expression-returns-in_default t c = search (rules, the_lemmas)

pub same_expression-returns-in_default-2 : goal.same_expression-returns-in_default-2
same_expression-returns-in_default-2 t c = search (rules, the_lemmas)

pub same_inline-returns-in-StringLiteral-StringLiteral : goal.same_inline-returns-in-StringLiteral-StringLiteral
same_inline-returns-in-StringLiteral-StringLiteral t c = search (rules, the_lemmas)

pub same_inline-returns-in-NumberLiteral-NumberLiteral : goal.same_inline-returns-in-NumberLiteral-NumberLiteral
same_inline-returns-in-NumberLiteral-NumberLiteral t c = search (rules, the_lemmas)

pub same_inline-returns-then-eq : goal.same_inline-returns-then-eq
same_inline-returns-then-eq t c = search (rules, the_lemmas)

pub same_inline-returns-else-eq : goal.same_inline-returns-else-eq
same_inline-returns-else-eq t c = search (rules, the_lemmas)

pub same_inline-returns-then-eq-2 : goal.same_inline-returns-then-eq-2
same_inline-returns-then-eq-2 t c = search (rules, the_lemmas)

pub same_inline-returns-else-eq-2 : goal.same_inline-returns-else-eq-2
same_inline-returns-else-eq-2 t c = search (rules, the_lemmas)

pub same_inline-returns-then-same_target : goal.same_inline-returns-then-same_target
same_inline-returns-then-same_target t c = search (rules, the_lemmas)

pub same_inline-returns-else-same_target : goal.same_inline-returns-else-same_target
same_inline-returns-else-same_target t c = search (rules, the_lemmas)

pub same_inline-returns-in-VariableReference-VariableReference : goal.same_inline-returns-in-VariableReference-VariableReference
same_inline-returns-in-VariableReference-VariableReference t c = search (rules, the_lemmas)

pub same_inline-returns-in-Placeable-Placeable : goal.same_inline-returns-in-Placeable-Placeable
same_inline-returns-in-Placeable-Placeable t c = search (rules, the_lemmas)

pub same_inline-returns-in_default : goal.same_inline-returns-in_default
same_inline-returns-in_default t c = search (rules, the_lemmas)

pub same_inline-returns-in_default-2 : goal.same_inline-returns-in_default-2
same_inline-returns-in_default-2 t c = search (rules, the_lemmas)

pub same_inline-returns-in_default-3 : goal.same_inline-returns-in_default-3
same_inline-returns-in_default-3 t c = search (rules, the_lemmas)

pub same_inline-returns-in_default-4 : goal.same_inline-returns-in_default-4
same_inline-returns-in_default-4 t c = search (rules, the_lemmas)

pub same_inline-returns-in_default-5 : goal.same_inline-returns-in_default-5
same_inline-returns-in_default-5 t c = search (rules, the_lemmas)

pub same_inline-returns-in_default-6 : goal.same_inline-returns-in_default-6
same_inline-returns-in_default-6 t c = search (rules, the_lemmas)

pub same_inline-returns-in_default-7 : goal.same_inline-returns-in_default-7
same_inline-returns-in_default-7 t c = search (rules, the_lemmas)

pub same_named-returns-then-eq : goal.same_named-returns-then-eq
same_named-returns-then-eq t c = search (rules, the_lemmas)

pub same_named-returns-else-eq : goal.same_named-returns-else-eq
same_named-returns-else-eq t c = search (rules, the_lemmas)

pub same_variant-returns-then-a-b : goal.same_variant-returns-then-a-b
same_variant-returns-then-a-b t c = search (rules, the_lemmas)

pub same_variant-returns-then-same_key : goal.same_variant-returns-then-same_key
same_variant-returns-then-same_key t c = search (rules, the_lemmas)

pub same_variant-returns-else-same_key : goal.same_variant-returns-else-same_key
same_variant-returns-else-same_key t c = search (rules, the_lemmas)
