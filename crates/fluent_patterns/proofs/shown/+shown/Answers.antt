use Rattle.std.proofs.Common.{◌≡◌, List, map, refl, rules}
use Rattle.std.proofs.lemmas.List.{append-nil}
use Rattle.fluent_ast.specs.Tree.{pattern_of}
use Rattle.fluent_ast.specs.View.{element_view, inline_view, pattern_view}
use Rattle.fluent_ast.specs.References.{inlines_view, variants_view}
use Rattle.fluent_ast.specs.declared.ast.Expression.{the_lemmas}
use Rattle.fluent_ast.specs.declared.ast.InlineExpression.{InlineExpression}
use Rattle.fluent_ast.specs.declared.ast.PatternElement.{PatternElement}
use Rattle.fluent_ast.specs.declared.ast.Variant.{Variant, out-Variant}
use Rattle.fluent_patterns.specs.Shown.{in_element, in_inline, in_inlines, in_variants, shown}
use Rattle.fluent_patterns.proofs.Walked.{none_left, one_more}
use Rattle.fluent_patterns.proofs.shown.+shown.Goals as goal
use Rattle.fluent_patterns.proofs.shown.+shown.Goals.{add_pattern-in-Placeable+in_ok-add_expression, add_pattern-in_default}

pub add_pattern-loop-element-preserved : goal.add_pattern-loop-element-preserved
add_pattern-loop-element-preserved t c =
    one_more (λ (xs : List PatternElement). shown c.args.wanted (pattern_of (map element_view xs))) (λ x. in_element c.args.wanted (element_view x)) (λ x xs. refl) _ _ _ _ _ _ c.loop-element-test.true c.element-item.is c.loop-element.invariant
    (elim c.match-element.branch [
      | add_pattern-in-Placeable+in_ok-add_expression w ↦ search (rules, the_lemmas, w.in_ok-add_expression.ensures)
      | add_pattern-in_default w ↦ search (rules, the_lemmas, append-nil)
    ])

pub add_pattern-returns : goal.add_pattern-returns
add_pattern-returns t c =
    let all = none_left (λ (xs : List PatternElement). shown c.args.wanted (pattern_of (map element_view xs))) refl _ _ _ _ c.loop-element-test.false c.loop-element.invariant in
    search (rules, the_lemmas)

pub add_variants-loop-variant-preserved : goal.add_variants-loop-variant-preserved
add_variants-loop-variant-preserved t c =
    one_more (λ (xs : List Variant). in_variants c.args.wanted (variants_view xs)) (λ x. shown c.args.wanted (pattern_view (out-Variant x).value)) (λ x xs. search (rules, the_lemmas)) _ _ _ _ _ _ c.loop-variant-test.true c.variant-item.is c.loop-variant.invariant
    c.in_ok-add_pattern.ensures

pub add_variants-returns : goal.add_variants-returns
add_variants-returns t c = none_left (λ (xs : List Variant). in_variants c.args.wanted (variants_view xs)) refl _ _ _ _ c.loop-variant-test.false c.loop-variant.invariant

pub add_inlines-loop-inline-preserved : goal.add_inlines-loop-inline-preserved
add_inlines-loop-inline-preserved t c =
    one_more (λ (xs : List InlineExpression). in_inlines c.args.wanted (inlines_view xs)) (λ x. in_inline c.args.wanted (inline_view x)) (λ x xs. refl) _ _ _ _ _ _ c.loop-inline-test.true c.inline-item.is c.loop-inline.invariant
    c.in_ok-add_inline.ensures

pub add_inlines-returns : goal.add_inlines-returns
add_inlines-returns t c = none_left (λ (xs : List InlineExpression). in_inlines c.args.wanted (inlines_view xs)) refl _ _ _ _ c.loop-inline-test.false c.loop-inline.invariant
