use Rattle.std.proofs.Common.{rules}
use Rattle.fluent_ast.specs.declared.ast.Expression.{the_lemmas}
use Rattle.fluent_patterns.proofs.Selecting.{element_more, elements_end, positional_more, positional_end, named_more, named_end, variant_more, variants_end}
use Rattle.fluent_patterns.proofs.selects.+selects.Goals as goal
use Rattle.fluent_patterns.proofs.selects.+selects.Goals.{pass_pattern-in-Placeable+in_ok-pass_expression, pass_pattern-in_default}

pub pass_pattern-loop-element-preserved : goal.pass_pattern-loop-element-preserved
pass_pattern-loop-element-preserved t c =
    let more = element_more _ _ _ _ _ _ _ c.loop-element-test.true c.element-item.is c.loop-element.invariant in
    more (elim c.match-element.branch [
      | pass_pattern-in-Placeable+in_ok-pass_expression w ↦ search (rules, the_lemmas, w.in_ok-pass_expression.ensures)
      | pass_pattern-in_default w ↦ search (rules, the_lemmas)
    ])

pub pass_pattern-returns : goal.pass_pattern-returns
pass_pattern-returns t c = let all = elements_end _ _ _ _ _ c.loop-element-test.false c.loop-element.invariant in search (rules, the_lemmas)

pub pass_variants-loop-variant-preserved : goal.pass_variants-loop-variant-preserved
pass_variants-loop-variant-preserved t c = variant_more _ _ _ _ _ _ _ _ _ _ _ c.loop-variant-test.true c.variant-item.is c.loop-variant.invariant c.in_ok-pass_key.ensures.before c.in_ok-pass_key.ensures.passed c.in_ok-pass_pattern.ensures

pub pass_variants-returns : goal.pass_variants-returns
pass_variants-returns t c = variants_end _ _ _ _ _ _ _ c.loop-variant-test.false c.loop-variant.invariant

pub pass_positional-loop-argument-preserved : goal.pass_positional-loop-argument-preserved
pass_positional-loop-argument-preserved t c = positional_more _ _ _ _ _ _ _ c.loop-argument-test.true c.argument-item.is c.loop-argument.invariant c.in_ok-pass_inline.ensures

pub pass_positional-returns : goal.pass_positional-returns
pass_positional-returns t c = positional_end _ _ _ _ _ c.loop-argument-test.false c.loop-argument.invariant

pub pass_named-loop-argument-preserved : goal.pass_named-loop-argument-preserved
pass_named-loop-argument-preserved t c = named_more _ _ _ _ _ _ _ c.loop-argument-test.true c.argument-item.is c.loop-argument.invariant c.in_ok-pass_inline.ensures

pub pass_named-returns : goal.pass_named-returns
pass_named-returns t c = named_end _ _ _ _ _ c.loop-argument-test.false c.loop-argument.invariant
