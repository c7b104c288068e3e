use Rattle.std.proofs.Common.{◌≡◌, [], ◌∷◌, ◌++◌, refl, sym, ap, ◌∙◌, subst, arith, rules}
use Rattle.std.proofs.lemmas.List.{append-nil}
use Rattle.std.proofs.lemmas.Result.{IfOk-from_err, on_err_weaker, on_ok_weaker}
use Rattle.fluent_ast.specs.References.{AreSome, a_function, a_term, in_element}
use Rattle.fluent_ast.specs.ReferencesOf.{of_arguments, of_call, of_expression, of_inline, of_inlines, of_nameds, of_variants, references_of}
use Rattle.fluent_ast.specs.View.{element_view, name_view}
use Rattle.fluent_ast.specs.declared.ast.CallArguments.{out-CallArguments}
use Rattle.fluent_ast.specs.declared.ast.Expression.{the_lemmas}
use Rattle.fluent_syntax.specs.Listing.{AddsReferences, references_view}
use Rattle.fluent_syntax.proofs.Listed.{pushed, added_both, element_more, elements_end, positional_more, positional_end, named_more, named_end, variant_more, variants_end, where_failed, one_is_some, some_first, some_last, variant_some, positional_some, named_some, of_function_in, of_message_in, of_term_in, of_placeable_in, of_inline_in, of_select_in, of_arguments_are, of_elements_are, element_some, in_elements}
use Rattle.fluent_syntax.proofs.Views.{view_placeable_in}
use Rattle.fluent_syntax.proofs.listing.+listing.Goals as goal
use Rattle.fluent_syntax.proofs.listing.+listing.Goals.{add_pattern-in-Placeable+in_ok-add_expression, add_pattern-in_default}

pub add_arguments-returns-clause-added : goal.add_arguments-returns-clause-added
add_arguments-returns-clause-added t c =
    let a = c.args.arguments.now in
    let xs = of_inlines c.deref.result.now in
    let ns = of_nameds c.deref-2.result.now in
    let mid = c.add_positional.new.list in
    let new = c.add_named.new.list in
    on_ok_weaker c.add_named.result
    (λ (h : AddsReferences mid new ns).
    added_both (references_view c.args.list.now) (references_view mid) (references_view new) xs ns _ c.in_ok-add_positional.ensures.added h
    (of_arguments_are a ∙ (ap (λ ys. of_inlines ys ++ of_nameds (out-CallArguments a).named.items) (sym c.deref.ensures.value) ∙ ap (λ ys. xs ++ of_nameds ys) (sym c.deref-2.ensures.value))))
    c.add_named.ensures.added

pub add_expression-returns-in_ok-add_inline-in-Select-clause-added : goal.add_expression-returns-in_ok-add_inline-in-Select-clause-added
add_expression-returns-in_ok-add_inline-in-Select-clause-added t c =
    let x = c.in-Select.selector in
    let vs = c.in-Select.variants in
    let mid = c.add_inline-in-Select.new.list in
    let new = c.add_variants.new.list in
    on_ok_weaker c.add_variants.result
    (λ (h : AddsReferences mid new (of_variants c.deref.result.now)).
    added_both (references_view c.args.list.now) (references_view mid) (references_view new) (of_inline x) (of_variants c.deref.result.now) _ c.in_ok-add_inline-in-Select.ensures.added h
    (of_select_in _ x vs c.in-Select.is ∙ ap (λ w. of_inline x ++ of_variants w) (sym c.deref.ensures.value)))
    c.add_variants.ensures.added

pub add_inline-returns-in_ok-push-in-FunctionReference-clause-added : goal.add_inline-returns-in_ok-push-in-FunctionReference-clause-added
add_inline-returns-in_ok-push-in-FunctionReference-clause-added t c =
    let id = c.in-FunctionReference.id in
    let mid = c.push.new.self in
    let new = c.add_arguments.new.list in
    on_ok_weaker c.add_arguments.result
    (λ (h : AddsReferences mid new (of_arguments c.deref.result.now)).
    added_both (references_view c.args.list.now) (references_view mid) (references_view new) (a_function (name_view id) ∷ []) (of_arguments c.deref.result.now) _ (pushed _ _ _ c.in_ok-push-in-FunctionReference.ensures.items) h
    (of_function_in _ id c.in-FunctionReference.arguments c.in-FunctionReference.is ∙ ap (λ b. a_function (name_view id) ∷ of_arguments b) (sym c.deref.ensures)))
    c.add_arguments.ensures.added

pub add_inline-returns-in_ok-push-in-MessageReference-clause-added : goal.add_inline-returns-in_ok-push-in-MessageReference-clause-added
add_inline-returns-in_ok-push-in-MessageReference-clause-added t c =
    pushed _ _ _ c.in_ok-push-in-MessageReference.ensures.items
    ∙ ap (λ rs. references_view c.args.list.now ++ rs) (sym (of_message_in _ c.in-MessageReference.id c.in-MessageReference.attribute c.in-MessageReference.is))

pub add_inline-returns-in-Some-clause-added : goal.add_inline-returns-in-Some-clause-added
add_inline-returns-in-Some-clause-added t c =
    let id = c.in-TermReference.id in
    let mid = c.push-in-TermReference.new.self in
    let new = c.add_arguments-in-Some.new.list in
    on_ok_weaker c.add_arguments-in-Some.result
    (λ (h : AddsReferences mid new (of_arguments c.deref-in-Some.result.now)).
    added_both (references_view c.args.list.now) (references_view mid) (references_view new) (a_term (name_view id) ∷ []) (of_arguments c.deref-in-Some.result.now) _ (pushed _ _ _ c.in_ok-push-in-TermReference.ensures.items) h
    (of_term_in _ id c.in-TermReference.attribute c.in-TermReference.arguments c.in-TermReference.is
    ∙ (ap (λ o. a_term (name_view id) ∷ of_call o) c.in-Some.is ∙ ap (λ b. a_term (name_view id) ∷ of_arguments b) (sym c.deref-in-Some.ensures))))
    c.add_arguments-in-Some.ensures.added

pub add_inline-returns-in-None-clause-added : goal.add_inline-returns-in-None-clause-added
add_inline-returns-in-None-clause-added t c =
    let id = c.in-TermReference.id in
    pushed _ _ _ c.in_ok-push-in-TermReference.ensures.items
    ∙ ap (λ rs. references_view c.args.list.now ++ rs) (sym (of_term_in _ id c.in-TermReference.attribute c.in-TermReference.arguments c.in-TermReference.is ∙ ap (λ o. a_term (name_view id) ∷ of_call o) c.in-None.is))

pub add_named-loop-argument-preserved : goal.add_named-loop-argument-preserved
add_named-loop-argument-preserved t c = named_more _ _ _ _ _ _ _ c.loop-argument-test.true c.argument-item.is c.loop-argument.invariant c.in_ok-add_inline.ensures.added

pub add_named-returns-clause-added : goal.add_named-returns-clause-added
add_named-returns-clause-added t c = named_end _ _ _ _ c.loop-argument-test.false c.loop-argument.invariant.0

pub add_pattern-loop-element-preserved : goal.add_pattern-loop-element-preserved
add_pattern-loop-element-preserved t c =
    let more = element_more _ _ _ _ _ _ _ c.loop-element-test.true c.element-item.is c.loop-element.invariant in
    more (elim c.match-element.branch [
      | add_pattern-in-Placeable+in_ok-add_expression w ↦ search (rules, the_lemmas, w.in_ok-add_expression.ensures.added)
      | add_pattern-in_default w ↦ search (rules, the_lemmas, append-nil)
    ])

pub add_pattern-returns-clause-added : goal.add_pattern-returns-clause-added
add_pattern-returns-clause-added t c =
    let whole : references_of c.args.pattern.now ≡ in_elements c.deref-element-items.result.now = of_elements_are c.args.pattern.now ∙ ap in_elements (sym c.deref-element-items.ensures.value) in
    elements_end _ _ _ _ c.loop-element-test.false c.loop-element.invariant.0 ∙ ap (λ rs. references_view c.args.list.now ++ rs) (sym whole)

pub add_positional-loop-argument-preserved : goal.add_positional-loop-argument-preserved
add_positional-loop-argument-preserved t c = positional_more _ _ _ _ _ _ _ c.loop-argument-test.true c.argument-item.is c.loop-argument.invariant c.in_ok-add_inline.ensures.added

pub add_positional-returns-clause-added : goal.add_positional-returns-clause-added
add_positional-returns-clause-added t c = positional_end _ _ _ _ c.loop-argument-test.false c.loop-argument.invariant.0

pub add_variants-loop-variant-preserved : goal.add_variants-loop-variant-preserved
add_variants-loop-variant-preserved t c = variant_more _ _ _ _ _ _ _ c.loop-variant-test.true c.variant-item.is c.loop-variant.invariant c.in_ok-add_pattern.ensures.added

pub add_variants-returns-clause-added : goal.add_variants-returns-clause-added
add_variants-returns-clause-added t c = variants_end _ _ _ _ c.loop-variant-test.false c.loop-variant.invariant.0

pub add_inline-returns-in_ok-push-in-MessageReference-clause-alloc_failed : goal.add_inline-returns-in_ok-push-in-MessageReference-clause-alloc_failed
add_inline-returns-in_ok-push-in-MessageReference-clause-alloc_failed t c = search

pub add_inline-returns-in-None-clause-alloc_failed : goal.add_inline-returns-in-None-clause-alloc_failed
add_inline-returns-in-None-clause-alloc_failed t c = search

pub add_inline-returns-in-StringLiteral-clause-alloc_failed : goal.add_inline-returns-in-StringLiteral-clause-alloc_failed
add_inline-returns-in-StringLiteral-clause-alloc_failed t c = search

pub add_named-returns-clause-alloc_failed : goal.add_named-returns-clause-alloc_failed
add_named-returns-clause-alloc_failed t c = search

pub add_pattern-returns-clause-alloc_failed : goal.add_pattern-returns-clause-alloc_failed
add_pattern-returns-clause-alloc_failed t c = search

pub add_positional-returns-clause-alloc_failed : goal.add_positional-returns-clause-alloc_failed
add_positional-returns-clause-alloc_failed t c = search

pub add_variants-returns-clause-alloc_failed : goal.add_variants-returns-clause-alloc_failed
add_variants-returns-clause-alloc_failed t c = search

pub add_inline-returns-in_err-push-in-FunctionReference-clause-added : goal.add_inline-returns-in_err-push-in-FunctionReference-clause-added
add_inline-returns-in_err-push-in-FunctionReference-clause-added t c = IfOk-from_err c.from_residual.result _ c.from_residual.ensures.0

pub add_inline-returns-in_err-push-in-FunctionReference-clause-alloc_failed : goal.add_inline-returns-in_err-push-in-FunctionReference-clause-alloc_failed
add_inline-returns-in_err-push-in-FunctionReference-clause-alloc_failed t c = where_failed c.from_residual.result (one_is_some _ _ _ (of_function_in _ c.in-FunctionReference.id c.in-FunctionReference.arguments c.in-FunctionReference.is))

pub add_inline-returns-in_err-push-in-MessageReference-clause-added : goal.add_inline-returns-in_err-push-in-MessageReference-clause-added
add_inline-returns-in_err-push-in-MessageReference-clause-added t c = IfOk-from_err c.from_residual-in_err-push-in-MessageReference.result _ c.from_residual-in_err-push-in-MessageReference.ensures.0

pub add_inline-returns-in_err-push-in-MessageReference-clause-alloc_failed : goal.add_inline-returns-in_err-push-in-MessageReference-clause-alloc_failed
add_inline-returns-in_err-push-in-MessageReference-clause-alloc_failed t c = where_failed c.from_residual-in_err-push-in-MessageReference.result (one_is_some _ _ _ (of_message_in _ c.in-MessageReference.id c.in-MessageReference.attribute c.in-MessageReference.is))

pub add_inline-returns-in_err-push-in-TermReference-clause-added : goal.add_inline-returns-in_err-push-in-TermReference-clause-added
add_inline-returns-in_err-push-in-TermReference-clause-added t c = IfOk-from_err c.from_residual-in_err-push-in-TermReference.result _ c.from_residual-in_err-push-in-TermReference.ensures.0

pub add_inline-returns-in_err-push-in-TermReference-clause-alloc_failed : goal.add_inline-returns-in_err-push-in-TermReference-clause-alloc_failed
add_inline-returns-in_err-push-in-TermReference-clause-alloc_failed t c = where_failed c.from_residual-in_err-push-in-TermReference.result (one_is_some _ _ _ (of_term_in _ c.in-TermReference.id c.in-TermReference.attribute c.in-TermReference.arguments c.in-TermReference.is))

pub add_inline-returns-in_ok-push-in-FunctionReference-clause-alloc_failed : goal.add_inline-returns-in_ok-push-in-FunctionReference-clause-alloc_failed
add_inline-returns-in_ok-push-in-FunctionReference-clause-alloc_failed t c = where_failed c.add_arguments.result (one_is_some _ _ _ (of_function_in _ c.in-FunctionReference.id c.in-FunctionReference.arguments c.in-FunctionReference.is))

pub add_inline-returns-in-Some-clause-alloc_failed : goal.add_inline-returns-in-Some-clause-alloc_failed
add_inline-returns-in-Some-clause-alloc_failed t c = where_failed c.add_arguments-in-Some.result (one_is_some _ _ _ (of_term_in _ c.in-TermReference.id c.in-TermReference.attribute c.in-TermReference.arguments c.in-TermReference.is))

pub add_inline-returns-in-Placeable-clause-added : goal.add_inline-returns-in-Placeable-clause-added
add_inline-returns-in-Placeable-clause-added t c =
    let e = c.deref-in-Placeable.result.now in
    on_ok_weaker c.add_expression.result
    (λ (h : AddsReferences c.args.list.now c.add_expression.new.list (of_expression e)).
    h ∙ ap (λ rs. references_view c.args.list.now ++ rs) (ap of_expression c.deref-in-Placeable.ensures ∙ sym (of_placeable_in _ c.in-Placeable.expression c.in-Placeable.is)))
    c.add_expression.ensures.added

pub add_inline-returns-in-Placeable-clause-alloc_failed : goal.add_inline-returns-in-Placeable-clause-alloc_failed
add_inline-returns-in-Placeable-clause-alloc_failed t c =
    let e = c.deref-in-Placeable.result.now in
    on_err_weaker c.add_expression.result
    (λ (h : AreSome (of_expression e)). subst AreSome (ap of_expression c.deref-in-Placeable.ensures ∙ sym (of_placeable_in _ c.in-Placeable.expression c.in-Placeable.is)) h)
    c.add_expression.ensures.alloc_failed

pub add_expression-returns-in_ok-add_inline-in-Select-clause-alloc_failed : goal.add_expression-returns-in_ok-add_inline-in-Select-clause-alloc_failed
add_expression-returns-in_ok-add_inline-in-Select-clause-alloc_failed t c =
    let x = c.in-Select.selector in
    let vs = c.in-Select.variants in
    on_err_weaker c.add_variants.result
    (λ (h : AreSome (of_variants c.deref.result.now)). some_last (of_inline x) (of_variants c.deref.result.now) _ (of_select_in _ x vs c.in-Select.is ∙ ap (λ w. of_inline x ++ of_variants w) (sym c.deref.ensures.value)) h)
    c.add_variants.ensures.alloc_failed

pub add_arguments-returns-in_err-add_positional-clause-alloc_failed : goal.add_arguments-returns-in_err-add_positional-clause-alloc_failed
add_arguments-returns-in_err-add_positional-clause-alloc_failed t c =
    let a = c.args.arguments.now in
    let named = of_nameds (out-CallArguments a).named.items in
    where_failed c.from_residual.result
    (some_first (of_inlines c.deref.result.now) named _ (of_arguments_are a ∙ ap (λ xs. of_inlines xs ++ named) (sym c.deref.ensures.value)) c.in_err-add_positional.ensures.alloc_failed)

pub add_arguments-returns-clause-alloc_failed : goal.add_arguments-returns-clause-alloc_failed
add_arguments-returns-clause-alloc_failed t c =
    let a = c.args.arguments.now in
    let positional = of_inlines (out-CallArguments a).positional.items in
    on_err_weaker c.add_named.result
    (λ (h : AreSome (of_nameds c.deref-2.result.now)). some_last positional (of_nameds c.deref-2.result.now) _ (of_arguments_are a ∙ ap (λ ns. positional ++ of_nameds ns) (sym c.deref-2.ensures.value)) h)
    c.add_named.ensures.alloc_failed

pub add_pattern-returns-in_err-add_expression-clause-alloc_failed : goal.add_pattern-returns-in_err-add_expression-clause-alloc_failed
add_pattern-returns-in_err-add_expression-clause-alloc_failed t c =
    let whole : references_of c.args.pattern.now ≡ in_elements c.deref-element-items.result.now = of_elements_are c.args.pattern.now ∙ ap in_elements (sym c.deref-element-items.ensures.value) in
    let here : AreSome (in_element (element_view c.element-item.result)) = subst AreSome (sym (ap in_element (view_placeable_in _ _ c.in-Placeable.is))) c.in_err-add_expression.ensures.alloc_failed in
    where_failed c.from_residual.result
    (subst AreSome (sym whole) (element_some _ _ _ _ c.loop-element-test.true c.element-item.is c.loop-element.invariant.1 here))

pub add_expression-returns-in-Inline-clause-added : goal.add_expression-returns-in-Inline-clause-added
add_expression-returns-in-Inline-clause-added t c =
    let x = c.in-Inline.inline in
    on_ok_weaker c.add_inline.result
    (λ (h : AddsReferences c.args.list.now c.add_inline.new.list (of_inline x)). h ∙ ap (λ rs. references_view c.args.list.now ++ rs) (sym (of_inline_in _ x c.in-Inline.is)))
    c.add_inline.ensures.added

pub add_expression-returns-in-Inline-clause-alloc_failed : goal.add_expression-returns-in-Inline-clause-alloc_failed
add_expression-returns-in-Inline-clause-alloc_failed t c =
    let x = c.in-Inline.inline in
    on_err_weaker c.add_inline.result (λ (h : AreSome (of_inline x)). subst AreSome (sym (of_inline_in _ x c.in-Inline.is)) h) c.add_inline.ensures.alloc_failed

pub add_expression-returns-in_err-add_inline-in-Select-clause-added : goal.add_expression-returns-in_err-add_inline-in-Select-clause-added
add_expression-returns-in_err-add_inline-in-Select-clause-added t c = IfOk-from_err c.from_residual.result _ c.from_residual.ensures.0

pub add_expression-returns-in_err-add_inline-in-Select-clause-alloc_failed : goal.add_expression-returns-in_err-add_inline-in-Select-clause-alloc_failed
add_expression-returns-in_err-add_inline-in-Select-clause-alloc_failed t c =
    where_failed c.from_residual.result (some_first _ _ _ (of_select_in _ c.in-Select.selector c.in-Select.variants c.in-Select.is) c.in_err-add_inline-in-Select.ensures.alloc_failed)

pub add_named-loop-argument-init : goal.add_named-loop-argument-init
add_named-loop-argument-init t c = (refl, omega arith)

pub add_positional-loop-argument-init : goal.add_positional-loop-argument-init
add_positional-loop-argument-init t c = (refl, omega arith)

pub add_variants-loop-variant-init : goal.add_variants-loop-variant-init
add_variants-loop-variant-init t c = (refl, omega arith)

pub add_pattern-loop-element-init : goal.add_pattern-loop-element-init
add_pattern-loop-element-init t c = (refl, omega arith)

pub add_named-returns-in_err-add_inline-clause-added : goal.add_named-returns-in_err-add_inline-clause-added
add_named-returns-in_err-add_inline-clause-added t c = IfOk-from_err c.from_residual.result _ c.from_residual.ensures.0

pub add_named-returns-in_err-add_inline-clause-alloc_failed : goal.add_named-returns-in_err-add_inline-clause-alloc_failed
add_named-returns-in_err-add_inline-clause-alloc_failed t c =
    where_failed c.from_residual.result (named_some _ _ _ _ c.loop-argument-test.true c.argument-item.is c.loop-argument.invariant.1 c.in_err-add_inline.ensures.alloc_failed)

pub add_positional-returns-in_err-add_inline-clause-added : goal.add_positional-returns-in_err-add_inline-clause-added
add_positional-returns-in_err-add_inline-clause-added t c = IfOk-from_err c.from_residual.result _ c.from_residual.ensures.0

pub add_positional-returns-in_err-add_inline-clause-alloc_failed : goal.add_positional-returns-in_err-add_inline-clause-alloc_failed
add_positional-returns-in_err-add_inline-clause-alloc_failed t c =
    where_failed c.from_residual.result (positional_some _ _ _ _ c.loop-argument-test.true c.argument-item.is c.loop-argument.invariant.1 c.in_err-add_inline.ensures.alloc_failed)

pub add_variants-returns-in_err-add_pattern-clause-added : goal.add_variants-returns-in_err-add_pattern-clause-added
add_variants-returns-in_err-add_pattern-clause-added t c = IfOk-from_err c.from_residual.result _ c.from_residual.ensures.0

pub add_variants-returns-in_err-add_pattern-clause-alloc_failed : goal.add_variants-returns-in_err-add_pattern-clause-alloc_failed
add_variants-returns-in_err-add_pattern-clause-alloc_failed t c =
    where_failed c.from_residual.result (variant_some _ _ _ _ c.loop-variant-test.true c.variant-item.is c.loop-variant.invariant.1 c.in_err-add_pattern.ensures.alloc_failed)

pub add_pattern-returns-in_err-add_expression-clause-added : goal.add_pattern-returns-in_err-add_expression-clause-added
add_pattern-returns-in_err-add_expression-clause-added t c = IfOk-from_err c.from_residual.result _ c.from_residual.ensures.0

pub add_arguments-returns-in_err-add_positional-clause-added : goal.add_arguments-returns-in_err-add_positional-clause-added
add_arguments-returns-in_err-add_positional-clause-added t c = IfOk-from_err c.from_residual.result _ c.from_residual.ensures.0
