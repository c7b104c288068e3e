use Rattle.std.proofs.Common.{◌∙◌, ap, fold, refl, rules, sym}
use Rattle.std.proofs.lemmas.List.Sums.{fold-append}
use Rattle.fluent_ast.specs.declared.ast.Expression.{the_lemmas}
use Rattle.fluent_references.specs.Inside.Hashed.{hashed_element, hashed_expression, hashed_inline}
use Rattle.fluent_references.proofs.Fed.{elements_more, elements_end, variants_more, variants_end, positional_more, positional_end, named_more, named_end}
use Rattle.fluent_references.proofs.Viewed.{inline_is, number_is, placeable_is, string_is, text_is, variable_is}
use Rattle.fluent_references.proofs.hashing.+hashing.Goals as goal

pub hash_arguments-returns : goal.hash_arguments-returns
hash_arguments-returns g t c = search (rules, the_lemmas, fold-append)

pub hash_call-returns-in-Some : goal.hash_call-returns-in-Some
hash_call-returns-in-Some g t c = search (rules, the_lemmas, fold-append)

pub hash_expression-returns-in-Select : goal.hash_expression-returns-in-Select
hash_expression-returns-in-Select g t c = search (rules, the_lemmas, fold-append)

pub hash_inline-returns-in-FunctionReference : goal.hash_inline-returns-in-FunctionReference
hash_inline-returns-in-FunctionReference g t c = search (rules, the_lemmas, fold-append)

pub hash_inline-returns-in-MessageReference : goal.hash_inline-returns-in-MessageReference
hash_inline-returns-in-MessageReference g t c = search (rules, the_lemmas, fold-append)

pub hash_inline-returns-in-TermReference : goal.hash_inline-returns-in-TermReference
hash_inline-returns-in-TermReference g t c = search (rules, the_lemmas, fold-append)

pub hash_inline-returns-in-Placeable : goal.hash_inline-returns-in-Placeable
hash_inline-returns-in-Placeable g t c = search (rules, the_lemmas, fold-append)

pub hash_named-loop-argument-preserved : goal.hash_named-loop-argument-preserved
hash_named-loop-argument-preserved g t c = named_more g.H.Hasher.write _ _ _ _ _ _ c.loop-argument-test.true c.argument-item.is c.loop-argument.invariant (search (rules, fold-append))

pub hash_named-returns : goal.hash_named-returns
hash_named-returns g t c = let all = named_end g.H.Hasher.write _ _ _ _ c.loop-argument-test.false c.loop-argument.invariant in search (rules, the_lemmas)

pub hash_pattern-loop-element-preserved : goal.hash_pattern-loop-element-preserved
hash_pattern-loop-element-preserved g t c = elements_more g.H.Hasher.write _ _ _ _ _ _ c.loop-element-test.true c.element-item.is c.loop-element.invariant c.hash_element.ensures

pub hash_pattern-returns : goal.hash_pattern-returns
hash_pattern-returns g t c = let all = elements_end g.H.Hasher.write _ _ _ _ c.loop-element-test.false c.loop-element.invariant in search (rules, the_lemmas)

pub hash_positional-loop-argument-preserved : goal.hash_positional-loop-argument-preserved
hash_positional-loop-argument-preserved g t c = positional_more g.H.Hasher.write _ _ _ _ _ _ c.loop-argument-test.true c.argument-item.is c.loop-argument.invariant c.hash_inline.ensures

pub hash_positional-returns : goal.hash_positional-returns
hash_positional-returns g t c = let all = positional_end g.H.Hasher.write _ _ _ _ c.loop-argument-test.false c.loop-argument.invariant in search (rules, the_lemmas)

pub hash_variants-loop-variant-preserved : goal.hash_variants-loop-variant-preserved
hash_variants-loop-variant-preserved g t c = variants_more g.H.Hasher.write _ _ _ _ _ _ c.loop-variant-test.true c.variant-item.is c.loop-variant.invariant (search (rules, fold-append))

pub hash_variants-returns : goal.hash_variants-returns
hash_variants-returns g t c = let all = variants_end g.H.Hasher.write _ _ _ _ c.loop-variant-test.false c.loop-variant.invariant in search (rules, the_lemmas)

pub hash_element-returns-in-TextElement : goal.hash_element-returns-in-TextElement
hash_element-returns-in-TextElement g t c = c.hash_kind.ensures ∙ sym (ap (λ x. fold g.H.Hasher.write c.args.state.now (hashed_element x)) (text_is c.args.element.now c.in-TextElement.value c.in-TextElement.is))

pub hash_element-returns-in-Placeable : goal.hash_element-returns-in-Placeable
hash_element-returns-in-Placeable g t c = c.hash_expression.ensures ∙ sym (ap (λ x. fold g.H.Hasher.write c.args.state.now (hashed_element x)) (placeable_is c.args.element.now c.in-Placeable.expression c.in-Placeable.is))

pub hash_expression-returns-in-Inline : goal.hash_expression-returns-in-Inline
hash_expression-returns-in-Inline g t c = c.hash_inline.ensures ∙ sym (ap (λ x. fold g.H.Hasher.write c.args.state.now (hashed_expression x)) (inline_is c.args.expression.now c.in-Inline.inline c.in-Inline.is))

pub hash_inline-returns-in-StringLiteral : goal.hash_inline-returns-in-StringLiteral
hash_inline-returns-in-StringLiteral g t c = c.hash_kind.ensures ∙ sym (ap (λ x. fold g.H.Hasher.write c.args.state.now (hashed_inline x)) (string_is c.args.inline.now c.in-StringLiteral.value c.in-StringLiteral.is))

pub hash_inline-returns-in-NumberLiteral : goal.hash_inline-returns-in-NumberLiteral
hash_inline-returns-in-NumberLiteral g t c = c.hash_kind-in-NumberLiteral.ensures ∙ sym (ap (λ x. fold g.H.Hasher.write c.args.state.now (hashed_inline x)) (number_is c.args.inline.now c.in-NumberLiteral.value c.in-NumberLiteral.is))

pub hash_inline-returns-in-VariableReference : goal.hash_inline-returns-in-VariableReference
hash_inline-returns-in-VariableReference g t c = c.hash_kind-in-VariableReference.ensures ∙ sym (ap (λ x. fold g.H.Hasher.write c.args.state.now (hashed_inline x)) (variable_is c.args.inline.now c.in-VariableReference.id c.in-VariableReference.is))

pub hash_pattern-loop-element-init : goal.hash_pattern-loop-element-init
hash_pattern-loop-element-init g t c = refl

pub hash_variants-loop-variant-init : goal.hash_variants-loop-variant-init
hash_variants-loop-variant-init g t c = refl

pub hash_positional-loop-argument-init : goal.hash_positional-loop-argument-init
hash_positional-loop-argument-init g t c = refl

pub hash_named-loop-argument-init : goal.hash_named-loop-argument-init
hash_named-loop-argument-init g t c = refl
