use Rattle.std.proofs.Common.{rules}
use Rattle.std.proofs.lemmas.List.{append_assoc, append-nil}
use Rattle.fluent_ast.specs.declared.ast.Expression.{the_lemmas}
use Rattle.fluent_places.proofs.Listed.{pushed, element_more, elements_end, positional_more, positional_end, named_more, named_end, variant_more, variants_end}
use Rattle.fluent_places.proofs.listing.+listing.Goals as goal
use Rattle.fluent_places.proofs.listing.+listing.Goals.{add_pattern-in-Placeable+in_ok-add_expression, add_pattern-in_default}

pub add_arguments-returns : goal.add_arguments-returns
add_arguments-returns t c = search (rules, the_lemmas, append_assoc)

pub add_expression-returns-in_ok-add_variants-in-Select : goal.add_expression-returns-in_ok-add_variants-in-Select
add_expression-returns-in_ok-add_variants-in-Select t c = search (rules, the_lemmas, append_assoc)

pub add_inline-returns-in_ok-push-in-FunctionReference : goal.add_inline-returns-in_ok-push-in-FunctionReference
add_inline-returns-in_ok-push-in-FunctionReference t c = let first = pushed _ _ _ c.in_ok-push-in-FunctionReference.ensures.items in search (rules, the_lemmas, append_assoc)

pub add_inline-returns-in_ok-push-in-MessageReference : goal.add_inline-returns-in_ok-push-in-MessageReference
add_inline-returns-in_ok-push-in-MessageReference t c = let first = pushed _ _ _ c.in_ok-push-in-MessageReference.ensures.items in search (rules, the_lemmas)

pub add_inline-returns-in-Some : goal.add_inline-returns-in-Some
add_inline-returns-in-Some t c = let first = pushed _ _ _ c.in_ok-push-in-TermReference.ensures.items in search (rules, the_lemmas, append_assoc)

pub add_inline-returns-in-None : goal.add_inline-returns-in-None
add_inline-returns-in-None t c = let first = pushed _ _ _ c.in_ok-push-in-TermReference.ensures.items in search (rules, the_lemmas)

pub add_named-loop-argument-preserved : goal.add_named-loop-argument-preserved
add_named-loop-argument-preserved t c = named_more _ _ _ _ _ _ c.loop-argument-test.true c.argument-item.is c.loop-argument.invariant c.in_ok-add_inline.ensures

pub add_named-returns : goal.add_named-returns
add_named-returns t c = named_end _ _ _ _ c.loop-argument-test.false c.loop-argument.invariant

pub add_pattern-loop-element-preserved : goal.add_pattern-loop-element-preserved
add_pattern-loop-element-preserved t c =
    let more = element_more _ _ _ _ _ _ c.loop-element-test.true c.element-item.is c.loop-element.invariant in
    more (elim c.match-element.branch [
      | add_pattern-in-Placeable+in_ok-add_expression w ↦ search (rules, the_lemmas, w.in_ok-add_expression.ensures)
      | add_pattern-in_default w ↦ search (rules, the_lemmas, append-nil)
    ])

pub add_pattern-returns : goal.add_pattern-returns
add_pattern-returns t c = let all = elements_end _ _ _ _ c.loop-element-test.false c.loop-element.invariant in search (rules, the_lemmas)

pub add_positional-loop-argument-preserved : goal.add_positional-loop-argument-preserved
add_positional-loop-argument-preserved t c = positional_more _ _ _ _ _ _ c.loop-argument-test.true c.argument-item.is c.loop-argument.invariant c.in_ok-add_inline.ensures

pub add_positional-returns : goal.add_positional-returns
add_positional-returns t c = positional_end _ _ _ _ c.loop-argument-test.false c.loop-argument.invariant

pub add_variants-loop-variant-preserved : goal.add_variants-loop-variant-preserved
add_variants-loop-variant-preserved t c = variant_more _ _ _ _ _ _ c.loop-variant-test.true c.variant-item.is c.loop-variant.invariant c.in_ok-add_pattern.ensures

pub add_variants-returns : goal.add_variants-returns
add_variants-returns t c = variants_end _ _ _ _ c.loop-variant-test.false c.loop-variant.invariant

pub add_inline-returns-in_ok-push-in-VariableReference : goal.add_inline-returns-in_ok-push-in-VariableReference
add_inline-returns-in_ok-push-in-VariableReference t c = let first = pushed _ _ _ c.in_ok-push-in-VariableReference.ensures.items in search (rules, the_lemmas)
