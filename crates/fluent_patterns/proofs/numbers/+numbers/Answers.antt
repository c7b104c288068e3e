use Rattle.std.proofs.Common.{◌≡◌, List, map, refl, rules}
use Rattle.std.proofs.lemmas.List.{append_assoc, append-nil}
use Rattle.fluent_ast.specs.Tree.{pattern_of}
use Rattle.fluent_ast.specs.View.{element_view, inline_view, pattern_view}
use Rattle.fluent_ast.specs.References.{inlines_view, nameds_view, variants_view}
use Rattle.fluent_ast.specs.declared.ast.Expression.{the_lemmas}
use Rattle.fluent_ast.specs.declared.ast.InlineExpression.{InlineExpression}
use Rattle.fluent_ast.specs.declared.ast.NamedArgument.{NamedArgument, out-NamedArgument}
use Rattle.fluent_ast.specs.declared.ast.PatternElement.{PatternElement}
use Rattle.fluent_ast.specs.declared.ast.Variant.{Variant, out-Variant}
use Rattle.fluent_patterns.specs.Numbers.{calls, in_element, in_inline, in_named, in_positional, in_variants}
use Rattle.fluent_patterns.proofs.Walked.{none_left, one_more}
use Rattle.fluent_patterns.proofs.numbers.+numbers.Goals as goal
use Rattle.fluent_patterns.proofs.numbers.+numbers.Goals.{add_pattern-in-Placeable+in_ok-add_expression, add_pattern-in_default}

pub add_arguments-returns : goal.add_arguments-returns
add_arguments-returns t c = search (rules, the_lemmas, append_assoc)

pub add_expression-returns-in_ok-add_inline-in-Select : goal.add_expression-returns-in_ok-add_inline-in-Select
add_expression-returns-in_ok-add_inline-in-Select t c = search (rules, the_lemmas, append_assoc)

pub add_inline-returns-in_ok-push-in-FunctionReference : goal.add_inline-returns-in_ok-push-in-FunctionReference
add_inline-returns-in_ok-push-in-FunctionReference t c = search (rules, the_lemmas, append_assoc)

pub add_inline-returns-in-Some : goal.add_inline-returns-in-Some
add_inline-returns-in-Some t c = search (rules, the_lemmas, append_assoc)

pub add_inline-returns-in-None : goal.add_inline-returns-in-None
add_inline-returns-in-None t c = search (rules, the_lemmas)

pub add_named-loop-argument-preserved : goal.add_named-loop-argument-preserved
add_named-loop-argument-preserved t c =
    one_more (λ (xs : List NamedArgument). in_named (nameds_view xs)) (λ x. in_inline (inline_view (out-NamedArgument x).value)) (λ x xs. search (rules, the_lemmas)) _ _ _ _ _ _ c.loop-argument-test.true c.argument-item.is c.loop-argument.invariant
    c.in_ok-add_inline.ensures

pub add_named-returns : goal.add_named-returns
add_named-returns t c = none_left (λ (xs : List NamedArgument). in_named (nameds_view xs)) refl _ _ _ _ c.loop-argument-test.false c.loop-argument.invariant

pub add_pattern-loop-element-preserved : goal.add_pattern-loop-element-preserved
add_pattern-loop-element-preserved t c =
    one_more (λ (xs : List PatternElement). calls (pattern_of (map element_view xs))) (λ x. in_element (element_view x)) (λ x xs. refl) _ _ _ _ _ _ c.loop-element-test.true c.element-item.is c.loop-element.invariant
    (elim c.match-element.branch [
      | add_pattern-in-Placeable+in_ok-add_expression w ↦ search (rules, the_lemmas, w.in_ok-add_expression.ensures)
      | add_pattern-in_default w ↦ search (rules, the_lemmas, append-nil)
    ])

pub add_pattern-returns : goal.add_pattern-returns
add_pattern-returns t c =
    let all = none_left (λ (xs : List PatternElement). calls (pattern_of (map element_view xs))) refl _ _ _ _ c.loop-element-test.false c.loop-element.invariant in
    search (rules, the_lemmas)

pub add_positional-loop-argument-preserved : goal.add_positional-loop-argument-preserved
add_positional-loop-argument-preserved t c =
    one_more (λ (xs : List InlineExpression). in_positional (inlines_view xs)) (λ x. in_inline (inline_view x)) (λ x xs. refl) _ _ _ _ _ _ c.loop-argument-test.true c.argument-item.is c.loop-argument.invariant
    c.in_ok-add_inline.ensures

pub add_positional-returns : goal.add_positional-returns
add_positional-returns t c = none_left (λ (xs : List InlineExpression). in_positional (inlines_view xs)) refl _ _ _ _ c.loop-argument-test.false c.loop-argument.invariant

pub add_variants-loop-variant-preserved : goal.add_variants-loop-variant-preserved
add_variants-loop-variant-preserved t c =
    one_more (λ (xs : List Variant). in_variants (variants_view xs)) (λ x. calls (pattern_view (out-Variant x).value)) (λ x xs. search (rules, the_lemmas)) _ _ _ _ _ _ c.loop-variant-test.true c.variant-item.is c.loop-variant.invariant
    c.in_ok-add_pattern.ensures

pub add_variants-returns : goal.add_variants-returns
add_variants-returns t c = none_left (λ (xs : List Variant). in_variants (variants_view xs)) refl _ _ _ _ c.loop-variant-test.false c.loop-variant.invariant
