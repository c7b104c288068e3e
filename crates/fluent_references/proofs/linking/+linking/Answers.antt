use Rattle.std.proofs.Common.{[], ◌∷◌, ◌++◌, refl, ap, sym, subst, ◌∙◌, arith, length, take}
use Rattle.std.proofs.lemmas.List.{length-append, take_all}
use Rattle.fluent_ast.specs.References.{AreSome, a_function, a_message, a_term, in_arguments, in_call, in_expression, in_inline, references}
use Rattle.fluent_ast.specs.ReferencesOf.{of_element, of_inline, of_inlines, of_nameds, of_variants}
use Rattle.fluent_ast.specs.View.{arguments_view, call_view, expression_view, inline_view, pattern_view}
use Rattle.fluent_ast.specs.declared.ast.CallArguments as of_call
use Rattle.fluent_references.specs.CursorParts.{in_pattern_is, in_placeable_is, in_one_is, in_select_is, in_function_is, in_message_is, in_term_is, in_nested_is, in_arguments_is}
use Rattle.fluent_references.specs.CursorSteps.{in_elements, of_variant, of_named, element_in_turn, variant_in_turn, positional_in_turn, named_in_turn}
use Rattle.fluent_references.specs.Slots.{slots}
use Rattle.fluent_references.proofs.Gathered.{adds_none, adds_on, adds_as, adds_next, begins_as, begins_more, begins_next, begins_on, some_in}
use Rattle.fluent_references.proofs.Slotted.{err_is, no_ok, ok_is, on_err}
use Rattle.fluent_references.proofs.Bare.{in_literal_is, in_text_is}
use Rattle.fluent_references.proofs.linking.+linking.Goals as goal

pub link_arguments-returns-clause-ok : goal.link_arguments-returns-clause-ok
link_arguments-returns-clause-ok g t c =
    let a = of_call.out-CallArguments c.args.arguments.now in
    let xs = of_inlines c.deref.result.now in
    let ns = of_nameds c.deref-2.result.now in
    let parts = ap (λ xs. of_inlines xs ++ ns) c.deref.ensures.value ∙ (ap (λ ns. of_inlines a.positional.items ++ of_nameds ns) c.deref-2.ensures.value ∙ sym (in_arguments_is c.args.arguments.now)) in
    adds_as (slots c.args.slots.now) (slots c.link_named.new.slots) c.args.links.now.items c.link_named.new.links.items (xs ++ ns) (in_arguments (arguments_view c.args.arguments.now)) parts
    (adds_on (slots c.args.slots.now) (slots c.link_positional.new.slots) (slots c.link_named.new.slots) c.args.links.now.items c.link_positional.new.links.items c.link_named.new.links.items xs ns c.in_ok-link_positional.ensures.ok c.in_ok-link_named.ensures.ok)

pub link_expression-returns-in_ok-link_variants-in-Select-clause-ok : goal.link_expression-returns-in_ok-link_variants-in-Select-clause-ok
link_expression-returns-in_ok-link_variants-in-Select-clause-ok g t c =
    let x = in_inline (inline_view c.in-Select.selector) in
    let vs = of_variants c.deref.result.now in
    let parts = ap (λ vs. x ++ of_variants vs) c.deref.ensures.value ∙ sym (in_select_is c.args.expression.now c.in-Select.selector c.in-Select.variants c.in-Select.is) in
    adds_as (slots c.args.slots.now) (slots c.link_variants.new.slots) c.args.links.now.items c.link_variants.new.links.items (x ++ vs) (in_expression (expression_view c.args.expression.now)) parts
    (adds_on (slots c.args.slots.now) (slots c.link_inline-in-Select.new.slots) (slots c.link_variants.new.slots) c.args.links.now.items c.link_inline-in-Select.new.links.items c.link_variants.new.links.items x vs c.in_ok-link_inline-in-Select.ensures.ok c.in_ok-link_variants-in-Select.ensures.ok)

pub link_inline-returns-in_ok-link_arguments-in-FunctionReference-clause-ok : goal.link_inline-returns-in_ok-link_arguments-in-FunctionReference-clause-ok
link_inline-returns-in_ok-link_arguments-in-FunctionReference-clause-ok g t c =
    let r = a_function c.in-FunctionReference.id.name.now in
    let rest = in_arguments (arguments_view c.deref.result.now) in
    let parts = ap (λ a. r ∷ in_arguments (arguments_view a)) c.deref.ensures ∙ sym (in_function_is c.args.inline.now c.in-FunctionReference.id c.in-FunctionReference.arguments c.in-FunctionReference.is) in
    adds_as (slots c.args.slots.now) (slots c.link_arguments.new.slots) c.args.links.now.items c.link_arguments.new.links.items (r ∷ rest) (in_inline (inline_view c.args.inline.now)) parts
    (adds_on (slots c.args.slots.now) (slots c.link_one.new.slots) (slots c.link_arguments.new.slots) c.args.links.now.items c.link_one.new.links.items c.link_arguments.new.links.items (r ∷ []) rest (c.in_ok-link_one-in-FunctionReference.ensures.ok r refl) c.in_ok-link_arguments-in-FunctionReference.ensures.ok)

pub link_inline-returns-in_ok-link_call-in-TermReference-clause-ok : goal.link_inline-returns-in_ok-link_call-in-TermReference-clause-ok
link_inline-returns-in_ok-link_call-in-TermReference-clause-ok g t c =
    let r = a_term c.in-TermReference.id.name.now in
    let rest = in_call (call_view c.in-TermReference.arguments) in
    adds_as (slots c.args.slots.now) (slots c.link_call.new.slots) c.args.links.now.items c.link_call.new.links.items (r ∷ rest) (in_inline (inline_view c.args.inline.now)) (sym (in_term_is c.args.inline.now c.in-TermReference.id c.in-TermReference.attribute c.in-TermReference.arguments c.in-TermReference.is))
    (adds_on (slots c.args.slots.now) (slots c.link_one-in-TermReference.new.slots) (slots c.link_call.new.slots) c.args.links.now.items c.link_one-in-TermReference.new.links.items c.link_call.new.links.items (r ∷ []) rest (c.in_ok-link_one-in-TermReference.ensures.ok r refl) c.in_ok-link_call-in-TermReference.ensures.ok)

pub link_pattern-loop-element-preserved : goal.link_pattern-loop-element-preserved
link_pattern-loop-element-preserved g t c = adds_next of_element in_elements element_in_turn refl c.deref-element-items.result.now c.loop-element.element-index c.element-item.result c.loop-element-test.true c.element-item.is (slots c.args.slots.now) (slots c.loop-element.slots) (slots c.link_element.new.slots) c.args.links.now.items c.loop-element.links.items c.link_element.new.links.items c.loop-element.invariant c.in_ok-link_element.ensures.ok

pub link_variants-loop-variant-preserved : goal.link_variants-loop-variant-preserved
link_variants-loop-variant-preserved g t c = adds_next of_variant of_variants variant_in_turn refl c.args.variants.now c.loop-variant.variant-index c.variant-item.result c.loop-variant-test.true c.variant-item.is (slots c.args.slots.now) (slots c.loop-variant.slots) (slots c.link_pattern.new.slots) c.args.links.now.items c.loop-variant.links.items c.link_pattern.new.links.items c.loop-variant.invariant c.in_ok-link_pattern.ensures.ok

pub link_positional-loop-argument-preserved : goal.link_positional-loop-argument-preserved
link_positional-loop-argument-preserved g t c = adds_next of_inline of_inlines positional_in_turn refl c.args.positional.now c.loop-argument.argument-index c.argument-item.result c.loop-argument-test.true c.argument-item.is (slots c.args.slots.now) (slots c.loop-argument.slots) (slots c.link_inline.new.slots) c.args.links.now.items c.loop-argument.links.items c.link_inline.new.links.items c.loop-argument.invariant c.in_ok-link_inline.ensures.ok

pub link_named-loop-argument-preserved : goal.link_named-loop-argument-preserved
link_named-loop-argument-preserved g t c = adds_next of_named of_nameds named_in_turn refl c.args.named.now c.loop-argument.argument-index c.argument-item.result c.loop-argument-test.true c.argument-item.is (slots c.args.slots.now) (slots c.loop-argument.slots) (slots c.link_inline.new.slots) c.args.links.now.items c.loop-argument.links.items c.link_inline.new.links.items c.loop-argument.invariant c.in_ok-link_inline.ensures.ok

pub link_pattern-returns-clause-ok : goal.link_pattern-returns-clause-ok
link_pattern-returns-clause-ok g t c =
    let items = c.deref-element-items.result.now in
    let all = ap in_elements (take_all c.loop-element.element-index items c.loop-element-test.false ∙ c.deref-element-items.ensures.value) ∙ sym (in_pattern_is c.args.pattern.now) in
    adds_as (slots c.args.slots.now) (slots c.loop-element.slots) c.args.links.now.items c.loop-element.links.items (in_elements (take c.loop-element.element-index items)) (references (pattern_view c.args.pattern.now)) all c.loop-element.invariant

pub link_pattern-returns-in_err-link_element-clause-err : goal.link_pattern-returns-in_err-link_element-clause-err
link_pattern-returns-in_err-link_element-clause-err g t c = on_err c.from_residual.result
    (begins_as (slots c.args.slots.now) (slots c.link_element.new.slots) (in_elements c.deref-element-items.result.now) (references (pattern_view c.args.pattern.now)) (ap in_elements c.deref-element-items.ensures.value ∙ sym (in_pattern_is c.args.pattern.now))
    (begins_next of_element in_elements element_in_turn refl c.deref-element-items.result.now c.loop-element.element-index c.element-item.result c.loop-element-test.true c.element-item.is (slots c.args.slots.now) (slots c.loop-element.slots) (slots c.link_element.new.slots) c.args.links.now.items c.loop-element.links.items c.loop-element.invariant c.in_err-link_element.ensures.err))

pub link_variants-returns-in_err-link_pattern-clause-err : goal.link_variants-returns-in_err-link_pattern-clause-err
link_variants-returns-in_err-link_pattern-clause-err g t c = on_err c.from_residual.result (begins_next of_variant of_variants variant_in_turn refl c.args.variants.now c.loop-variant.variant-index c.variant-item.result c.loop-variant-test.true c.variant-item.is (slots c.args.slots.now) (slots c.loop-variant.slots) (slots c.link_pattern.new.slots) c.args.links.now.items c.loop-variant.links.items c.loop-variant.invariant c.in_err-link_pattern.ensures.err)

pub link_positional-returns-in_err-link_inline-clause-err : goal.link_positional-returns-in_err-link_inline-clause-err
link_positional-returns-in_err-link_inline-clause-err g t c = on_err c.from_residual.result (begins_next of_inline of_inlines positional_in_turn refl c.args.positional.now c.loop-argument.argument-index c.argument-item.result c.loop-argument-test.true c.argument-item.is (slots c.args.slots.now) (slots c.loop-argument.slots) (slots c.link_inline.new.slots) c.args.links.now.items c.loop-argument.links.items c.loop-argument.invariant c.in_err-link_inline.ensures.err)

pub link_named-returns-in_err-link_inline-clause-err : goal.link_named-returns-in_err-link_inline-clause-err
link_named-returns-in_err-link_inline-clause-err g t c = on_err c.from_residual.result (begins_next of_named of_nameds named_in_turn refl c.args.named.now c.loop-argument.argument-index c.argument-item.result c.loop-argument-test.true c.argument-item.is (slots c.args.slots.now) (slots c.loop-argument.slots) (slots c.link_inline.new.slots) c.args.links.now.items c.loop-argument.links.items c.loop-argument.invariant c.in_err-link_inline.ensures.err)

pub link_arguments-returns-in_err-link_positional-clause-err : goal.link_arguments-returns-in_err-link_positional-clause-err
link_arguments-returns-in_err-link_positional-clause-err g t c =
    let a = of_call.out-CallArguments c.args.arguments.now in
    let xs = of_inlines c.deref.result.now in
    let ns = of_nameds a.named.items in
    let parts = ap (λ xs. of_inlines xs ++ ns) c.deref.ensures.value ∙ sym (in_arguments_is c.args.arguments.now) in
    on_err c.from_residual.result
    (begins_as (slots c.args.slots.now) (slots c.link_positional.new.slots) (xs ++ ns) (in_arguments (arguments_view c.args.arguments.now)) parts
    (begins_more (slots c.args.slots.now) (slots c.link_positional.new.slots) xs ns c.in_err-link_positional.ensures.err))

pub link_arguments-returns-in_err-link_named-clause-err : goal.link_arguments-returns-in_err-link_named-clause-err
link_arguments-returns-in_err-link_named-clause-err g t c =
    let a = of_call.out-CallArguments c.args.arguments.now in
    let xs = of_inlines c.deref.result.now in
    let ns = of_nameds c.deref-2.result.now in
    let parts = ap (λ xs. of_inlines xs ++ ns) c.deref.ensures.value ∙ (ap (λ ns. of_inlines a.positional.items ++ of_nameds ns) c.deref-2.ensures.value ∙ sym (in_arguments_is c.args.arguments.now)) in
    on_err c.from_residual-in_err-link_named.result
    (begins_as (slots c.args.slots.now) (slots c.link_named.new.slots) (xs ++ ns) (in_arguments (arguments_view c.args.arguments.now)) parts
    (begins_on (slots c.args.slots.now) (slots c.link_positional.new.slots) (slots c.link_named.new.slots) xs ns c.in_ok-link_positional.ensures.ok.0 c.in_err-link_named.ensures.err))

pub link_expression-returns-in_err-link_inline-in-Select-clause-err : goal.link_expression-returns-in_err-link_inline-in-Select-clause-err
link_expression-returns-in_err-link_inline-in-Select-clause-err g t c =
    let x = in_inline (inline_view c.in-Select.selector) in
    let vs = of_variants c.in-Select.variants.items in
    on_err c.from_residual.result
    (begins_as (slots c.args.slots.now) (slots c.link_inline-in-Select.new.slots) (x ++ vs) (in_expression (expression_view c.args.expression.now)) (sym (in_select_is c.args.expression.now c.in-Select.selector c.in-Select.variants c.in-Select.is))
    (begins_more (slots c.args.slots.now) (slots c.link_inline-in-Select.new.slots) x vs c.in_err-link_inline-in-Select.ensures.err))

pub link_expression-returns-in_err-link_variants-in-Select-clause-err : goal.link_expression-returns-in_err-link_variants-in-Select-clause-err
link_expression-returns-in_err-link_variants-in-Select-clause-err g t c =
    let x = in_inline (inline_view c.in-Select.selector) in
    let vs = of_variants c.deref.result.now in
    let parts = ap (λ vs. x ++ of_variants vs) c.deref.ensures.value ∙ sym (in_select_is c.args.expression.now c.in-Select.selector c.in-Select.variants c.in-Select.is) in
    on_err c.from_residual-in_err-link_variants-in-Select.result
    (begins_as (slots c.args.slots.now) (slots c.link_variants.new.slots) (x ++ vs) (in_expression (expression_view c.args.expression.now)) parts
    (begins_on (slots c.args.slots.now) (slots c.link_inline-in-Select.new.slots) (slots c.link_variants.new.slots) x vs c.in_ok-link_inline-in-Select.ensures.ok.0 c.in_err-link_variants-in-Select.ensures.err))

pub link_inline-returns-in_err-link_one-in-FunctionReference-clause-err : goal.link_inline-returns-in_err-link_one-in-FunctionReference-clause-err
link_inline-returns-in_err-link_one-in-FunctionReference-clause-err g t c =
    let r = a_function c.in-FunctionReference.id.name.now in
    let rest = in_arguments (arguments_view c.in-FunctionReference.arguments.value) in
    on_err c.from_residual.result
    (begins_as (slots c.args.slots.now) (slots c.link_one.new.slots) (r ∷ rest) (in_inline (inline_view c.args.inline.now)) (sym (in_function_is c.args.inline.now c.in-FunctionReference.id c.in-FunctionReference.arguments c.in-FunctionReference.is))
    (begins_more (slots c.args.slots.now) (slots c.link_one.new.slots) (r ∷ []) rest (c.in_err-link_one-in-FunctionReference.ensures.err r refl)))

pub link_inline-returns-in_err-link_arguments-in-FunctionReference-clause-err : goal.link_inline-returns-in_err-link_arguments-in-FunctionReference-clause-err
link_inline-returns-in_err-link_arguments-in-FunctionReference-clause-err g t c =
    let r = a_function c.in-FunctionReference.id.name.now in
    let rest = in_arguments (arguments_view c.deref.result.now) in
    let parts = ap (λ a. r ∷ in_arguments (arguments_view a)) c.deref.ensures ∙ sym (in_function_is c.args.inline.now c.in-FunctionReference.id c.in-FunctionReference.arguments c.in-FunctionReference.is) in
    on_err c.from_residual-in_err-link_arguments-in-FunctionReference.result
    (begins_as (slots c.args.slots.now) (slots c.link_arguments.new.slots) (r ∷ rest) (in_inline (inline_view c.args.inline.now)) parts
    (begins_on (slots c.args.slots.now) (slots c.link_one.new.slots) (slots c.link_arguments.new.slots) (r ∷ []) rest (c.in_ok-link_one-in-FunctionReference.ensures.ok r refl).0 c.in_err-link_arguments-in-FunctionReference.ensures.err))

pub link_inline-returns-in_err-link_one-in-TermReference-clause-err : goal.link_inline-returns-in_err-link_one-in-TermReference-clause-err
link_inline-returns-in_err-link_one-in-TermReference-clause-err g t c =
    let r = a_term c.in-TermReference.id.name.now in
    let rest = in_call (call_view c.in-TermReference.arguments) in
    on_err c.from_residual-in_err-link_one-in-TermReference.result
    (begins_as (slots c.args.slots.now) (slots c.link_one-in-TermReference.new.slots) (r ∷ rest) (in_inline (inline_view c.args.inline.now)) (sym (in_term_is c.args.inline.now c.in-TermReference.id c.in-TermReference.attribute c.in-TermReference.arguments c.in-TermReference.is))
    (begins_more (slots c.args.slots.now) (slots c.link_one-in-TermReference.new.slots) (r ∷ []) rest (c.in_err-link_one-in-TermReference.ensures.err r refl)))

pub link_inline-returns-in_err-link_call-in-TermReference-clause-err : goal.link_inline-returns-in_err-link_call-in-TermReference-clause-err
link_inline-returns-in_err-link_call-in-TermReference-clause-err g t c =
    let r = a_term c.in-TermReference.id.name.now in
    let rest = in_call (call_view c.in-TermReference.arguments) in
    on_err c.from_residual-in_err-link_call-in-TermReference.result
    (begins_as (slots c.args.slots.now) (slots c.link_call.new.slots) (r ∷ rest) (in_inline (inline_view c.args.inline.now)) (sym (in_term_is c.args.inline.now c.in-TermReference.id c.in-TermReference.attribute c.in-TermReference.arguments c.in-TermReference.is))
    (begins_on (slots c.args.slots.now) (slots c.link_one-in-TermReference.new.slots) (slots c.link_call.new.slots) (r ∷ []) rest (c.in_ok-link_one-in-TermReference.ensures.ok r refl).0 c.in_err-link_call-in-TermReference.ensures.err))

pub link_inline-returns-in-MessageReference-clause-ok : goal.link_inline-returns-in-MessageReference-clause-ok
link_inline-returns-in-MessageReference-clause-ok g t c =
    let r = a_message c.in-MessageReference.id.name.now in
    ok_is c.link_one-in-MessageReference.result (λ adds. adds_as (slots c.args.slots.now) (slots c.link_one-in-MessageReference.new.slots) c.args.links.now.items c.link_one-in-MessageReference.new.links.items (r ∷ []) (in_inline (inline_view c.args.inline.now)) (sym (in_message_is c.args.inline.now c.in-MessageReference.id c.in-MessageReference.attribute c.in-MessageReference.is)) (adds r refl)) c.link_one-in-MessageReference.ensures.ok

pub link_inline-returns-in-MessageReference-clause-err : goal.link_inline-returns-in-MessageReference-clause-err
link_inline-returns-in-MessageReference-clause-err g t c =
    let r = a_message c.in-MessageReference.id.name.now in
    err_is c.link_one-in-MessageReference.result (λ begins. begins_as (slots c.args.slots.now) (slots c.link_one-in-MessageReference.new.slots) (r ∷ []) (in_inline (inline_view c.args.inline.now)) (sym (in_message_is c.args.inline.now c.in-MessageReference.id c.in-MessageReference.attribute c.in-MessageReference.is)) (begins r refl)) c.link_one-in-MessageReference.ensures.err

pub link_pattern-returns-in_err-link_element-clause-alloc_failed : goal.link_pattern-returns-in_err-link_element-clause-alloc_failed
link_pattern-returns-in_err-link_element-clause-alloc_failed g t c = on_err c.from_residual.result (some_in of_element in_elements element_in_turn refl c.deref-element-items.result.now c.loop-element.element-index c.element-item.result c.loop-element-test.true c.element-item.is (references (pattern_view c.args.pattern.now)) (ap in_elements c.deref-element-items.ensures.value ∙ sym (in_pattern_is c.args.pattern.now)) c.in_err-link_element.ensures.alloc_failed)

pub link_variants-returns-in_err-link_pattern-clause-alloc_failed : goal.link_variants-returns-in_err-link_pattern-clause-alloc_failed
link_variants-returns-in_err-link_pattern-clause-alloc_failed g t c = on_err c.from_residual.result (some_in of_variant of_variants variant_in_turn refl c.args.variants.now c.loop-variant.variant-index c.variant-item.result c.loop-variant-test.true c.variant-item.is (of_variants c.args.variants.now) refl c.in_err-link_pattern.ensures.alloc_failed)

pub link_positional-returns-in_err-link_inline-clause-alloc_failed : goal.link_positional-returns-in_err-link_inline-clause-alloc_failed
link_positional-returns-in_err-link_inline-clause-alloc_failed g t c = on_err c.from_residual.result (some_in of_inline of_inlines positional_in_turn refl c.args.positional.now c.loop-argument.argument-index c.argument-item.result c.loop-argument-test.true c.argument-item.is (of_inlines c.args.positional.now) refl c.in_err-link_inline.ensures.alloc_failed)

pub link_named-returns-in_err-link_inline-clause-alloc_failed : goal.link_named-returns-in_err-link_inline-clause-alloc_failed
link_named-returns-in_err-link_inline-clause-alloc_failed g t c = on_err c.from_residual.result (some_in of_named of_nameds named_in_turn refl c.args.named.now c.loop-argument.argument-index c.argument-item.result c.loop-argument-test.true c.argument-item.is (of_nameds c.args.named.now) refl c.in_err-link_inline.ensures.alloc_failed)

pub link_arguments-returns-in_err-link_positional-clause-alloc_failed : goal.link_arguments-returns-in_err-link_positional-clause-alloc_failed
link_arguments-returns-in_err-link_positional-clause-alloc_failed g t c =
    let a = of_call.out-CallArguments c.args.arguments.now in
    let xs = of_inlines c.deref.result.now in
    let ns = of_nameds a.named.items in
    let parts = ap (λ xs. of_inlines xs ++ ns) c.deref.ensures.value ∙ sym (in_arguments_is c.args.arguments.now) in
    on_err c.from_residual.result (omega (arith, ap length parts, length-append xs ns, c.in_err-link_positional.ensures.alloc_failed))

pub link_arguments-returns-in_err-link_named-clause-alloc_failed : goal.link_arguments-returns-in_err-link_named-clause-alloc_failed
link_arguments-returns-in_err-link_named-clause-alloc_failed g t c =
    let a = of_call.out-CallArguments c.args.arguments.now in
    let xs = of_inlines c.deref.result.now in
    let ns = of_nameds c.deref-2.result.now in
    let parts = ap (λ xs. of_inlines xs ++ ns) c.deref.ensures.value ∙ (ap (λ ns. of_inlines a.positional.items ++ of_nameds ns) c.deref-2.ensures.value ∙ sym (in_arguments_is c.args.arguments.now)) in
    on_err c.from_residual-in_err-link_named.result (omega (arith, ap length parts, length-append xs ns, c.in_err-link_named.ensures.alloc_failed))

pub link_expression-returns-in_err-link_inline-in-Select-clause-alloc_failed : goal.link_expression-returns-in_err-link_inline-in-Select-clause-alloc_failed
link_expression-returns-in_err-link_inline-in-Select-clause-alloc_failed g t c =
    let x = in_inline (inline_view c.in-Select.selector) in
    let vs = of_variants c.in-Select.variants.items in
    on_err c.from_residual.result (omega (arith, ap length (sym (in_select_is c.args.expression.now c.in-Select.selector c.in-Select.variants c.in-Select.is)), length-append x vs, c.in_err-link_inline-in-Select.ensures.alloc_failed))

pub link_expression-returns-in_err-link_variants-in-Select-clause-alloc_failed : goal.link_expression-returns-in_err-link_variants-in-Select-clause-alloc_failed
link_expression-returns-in_err-link_variants-in-Select-clause-alloc_failed g t c =
    let x = in_inline (inline_view c.in-Select.selector) in
    let vs = of_variants c.deref.result.now in
    let parts = ap (λ vs. x ++ of_variants vs) c.deref.ensures.value ∙ sym (in_select_is c.args.expression.now c.in-Select.selector c.in-Select.variants c.in-Select.is) in
    on_err c.from_residual-in_err-link_variants-in-Select.result (omega (arith, ap length parts, length-append x vs, c.in_err-link_variants-in-Select.ensures.alloc_failed))

pub link_inline-returns-in_err-link_one-in-FunctionReference-clause-alloc_failed : goal.link_inline-returns-in_err-link_one-in-FunctionReference-clause-alloc_failed
link_inline-returns-in_err-link_one-in-FunctionReference-clause-alloc_failed g t c = on_err c.from_residual.result (omega (arith, ap length (sym (in_function_is c.args.inline.now c.in-FunctionReference.id c.in-FunctionReference.arguments c.in-FunctionReference.is))))

pub link_inline-returns-in_err-link_arguments-in-FunctionReference-clause-alloc_failed : goal.link_inline-returns-in_err-link_arguments-in-FunctionReference-clause-alloc_failed
link_inline-returns-in_err-link_arguments-in-FunctionReference-clause-alloc_failed g t c =
    let r = a_function c.in-FunctionReference.id.name.now in
    let rest = in_arguments (arguments_view c.deref.result.now) in
    let parts = ap (λ a. r ∷ in_arguments (arguments_view a)) c.deref.ensures ∙ sym (in_function_is c.args.inline.now c.in-FunctionReference.id c.in-FunctionReference.arguments c.in-FunctionReference.is) in
    on_err c.from_residual-in_err-link_arguments-in-FunctionReference.result (omega (arith, ap length parts))

pub link_inline-returns-in_err-link_one-in-TermReference-clause-alloc_failed : goal.link_inline-returns-in_err-link_one-in-TermReference-clause-alloc_failed
link_inline-returns-in_err-link_one-in-TermReference-clause-alloc_failed g t c = on_err c.from_residual-in_err-link_one-in-TermReference.result (omega (arith, ap length (sym (in_term_is c.args.inline.now c.in-TermReference.id c.in-TermReference.attribute c.in-TermReference.arguments c.in-TermReference.is))))

pub link_inline-returns-in_err-link_call-in-TermReference-clause-alloc_failed : goal.link_inline-returns-in_err-link_call-in-TermReference-clause-alloc_failed
link_inline-returns-in_err-link_call-in-TermReference-clause-alloc_failed g t c = on_err c.from_residual-in_err-link_call-in-TermReference.result (omega (arith, ap length (sym (in_term_is c.args.inline.now c.in-TermReference.id c.in-TermReference.attribute c.in-TermReference.arguments c.in-TermReference.is))))

pub link_inline-returns-in-MessageReference-clause-alloc_failed : goal.link_inline-returns-in-MessageReference-clause-alloc_failed
link_inline-returns-in-MessageReference-clause-alloc_failed g t c = err_is c.link_one-in-MessageReference.result (λ begins. omega (arith, ap length (in_message_is c.args.inline.now c.in-MessageReference.id c.in-MessageReference.attribute c.in-MessageReference.is))) c.link_one-in-MessageReference.ensures.err

pub link_pattern-returns-in_err-link_element-clause-ok : goal.link_pattern-returns-in_err-link_element-clause-ok
link_pattern-returns-in_err-link_element-clause-ok g t c = no_ok _ c.from_residual.result c.from_residual.ensures.0

pub link_variants-returns-in_err-link_pattern-clause-ok : goal.link_variants-returns-in_err-link_pattern-clause-ok
link_variants-returns-in_err-link_pattern-clause-ok g t c = no_ok _ c.from_residual.result c.from_residual.ensures.0

pub link_positional-returns-in_err-link_inline-clause-ok : goal.link_positional-returns-in_err-link_inline-clause-ok
link_positional-returns-in_err-link_inline-clause-ok g t c = no_ok _ c.from_residual.result c.from_residual.ensures.0

pub link_named-returns-in_err-link_inline-clause-ok : goal.link_named-returns-in_err-link_inline-clause-ok
link_named-returns-in_err-link_inline-clause-ok g t c = no_ok _ c.from_residual.result c.from_residual.ensures.0

pub link_arguments-returns-in_err-link_positional-clause-ok : goal.link_arguments-returns-in_err-link_positional-clause-ok
link_arguments-returns-in_err-link_positional-clause-ok g t c = no_ok _ c.from_residual.result c.from_residual.ensures.0

pub link_arguments-returns-in_err-link_named-clause-ok : goal.link_arguments-returns-in_err-link_named-clause-ok
link_arguments-returns-in_err-link_named-clause-ok g t c = no_ok _ c.from_residual-in_err-link_named.result c.from_residual-in_err-link_named.ensures.0

pub link_expression-returns-in_err-link_inline-in-Select-clause-ok : goal.link_expression-returns-in_err-link_inline-in-Select-clause-ok
link_expression-returns-in_err-link_inline-in-Select-clause-ok g t c = no_ok _ c.from_residual.result c.from_residual.ensures.0

pub link_expression-returns-in_err-link_variants-in-Select-clause-ok : goal.link_expression-returns-in_err-link_variants-in-Select-clause-ok
link_expression-returns-in_err-link_variants-in-Select-clause-ok g t c = no_ok _ c.from_residual-in_err-link_variants-in-Select.result c.from_residual-in_err-link_variants-in-Select.ensures.0

pub link_inline-returns-in_err-link_one-in-FunctionReference-clause-ok : goal.link_inline-returns-in_err-link_one-in-FunctionReference-clause-ok
link_inline-returns-in_err-link_one-in-FunctionReference-clause-ok g t c = no_ok _ c.from_residual.result c.from_residual.ensures.0

pub link_inline-returns-in_err-link_arguments-in-FunctionReference-clause-ok : goal.link_inline-returns-in_err-link_arguments-in-FunctionReference-clause-ok
link_inline-returns-in_err-link_arguments-in-FunctionReference-clause-ok g t c = no_ok _ c.from_residual-in_err-link_arguments-in-FunctionReference.result c.from_residual-in_err-link_arguments-in-FunctionReference.ensures.0

pub link_inline-returns-in_err-link_one-in-TermReference-clause-ok : goal.link_inline-returns-in_err-link_one-in-TermReference-clause-ok
link_inline-returns-in_err-link_one-in-TermReference-clause-ok g t c = no_ok _ c.from_residual-in_err-link_one-in-TermReference.result c.from_residual-in_err-link_one-in-TermReference.ensures.0

pub link_inline-returns-in_err-link_call-in-TermReference-clause-ok : goal.link_inline-returns-in_err-link_call-in-TermReference-clause-ok
link_inline-returns-in_err-link_call-in-TermReference-clause-ok g t c = no_ok _ c.from_residual-in_err-link_call-in-TermReference.result c.from_residual-in_err-link_call-in-TermReference.ensures.0

pub link_pattern-loop-element-init : goal.link_pattern-loop-element-init
link_pattern-loop-element-init g t c = adds_none (slots c.args.slots.now) c.args.links.now.items

pub link_variants-loop-variant-init : goal.link_variants-loop-variant-init
link_variants-loop-variant-init g t c = adds_none (slots c.args.slots.now) c.args.links.now.items

pub link_variants-returns-clause-ok : goal.link_variants-returns-clause-ok
link_variants-returns-clause-ok g t c = adds_as (slots c.args.slots.now) (slots c.loop-variant.slots) c.args.links.now.items c.loop-variant.links.items (of_variants (take c.loop-variant.variant-index c.args.variants.now)) (of_variants c.args.variants.now) (ap of_variants (take_all c.loop-variant.variant-index c.args.variants.now c.loop-variant-test.false)) c.loop-variant.invariant

pub link_positional-loop-argument-init : goal.link_positional-loop-argument-init
link_positional-loop-argument-init g t c = adds_none (slots c.args.slots.now) c.args.links.now.items

pub link_positional-returns-clause-ok : goal.link_positional-returns-clause-ok
link_positional-returns-clause-ok g t c = adds_as (slots c.args.slots.now) (slots c.loop-argument.slots) c.args.links.now.items c.loop-argument.links.items (of_inlines (take c.loop-argument.argument-index c.args.positional.now)) (of_inlines c.args.positional.now) (ap of_inlines (take_all c.loop-argument.argument-index c.args.positional.now c.loop-argument-test.false)) c.loop-argument.invariant

pub link_named-loop-argument-init : goal.link_named-loop-argument-init
link_named-loop-argument-init g t c = adds_none (slots c.args.slots.now) c.args.links.now.items

pub link_named-returns-clause-ok : goal.link_named-returns-clause-ok
link_named-returns-clause-ok g t c = adds_as (slots c.args.slots.now) (slots c.loop-argument.slots) c.args.links.now.items c.loop-argument.links.items (of_nameds (take c.loop-argument.argument-index c.args.named.now)) (of_nameds c.args.named.now) (ap of_nameds (take_all c.loop-argument.argument-index c.args.named.now c.loop-argument-test.false)) c.loop-argument.invariant

pub link_call-returns-in-Some-clause-ok : goal.link_call-returns-in-Some-clause-ok
link_call-returns-in-Some-clause-ok g t c =
    let parts = ap (λ a. in_arguments (arguments_view a)) c.deref.ensures ∙ sym (ap (λ a. in_call (call_view a)) c.in-Some.is) in
    ok_is c.link_arguments.result (adds_as (slots c.args.slots.now) (slots c.link_arguments.new.slots) c.args.links.now.items c.link_arguments.new.links.items (in_arguments (arguments_view c.deref.result.now)) (in_call (call_view c.args.arguments.now)) parts) c.link_arguments.ensures.ok

pub link_call-returns-in-Some-clause-err : goal.link_call-returns-in-Some-clause-err
link_call-returns-in-Some-clause-err g t c =
    let parts = ap (λ a. in_arguments (arguments_view a)) c.deref.ensures ∙ sym (ap (λ a. in_call (call_view a)) c.in-Some.is) in
    err_is c.link_arguments.result (begins_as (slots c.args.slots.now) (slots c.link_arguments.new.slots) (in_arguments (arguments_view c.deref.result.now)) (in_call (call_view c.args.arguments.now)) parts) c.link_arguments.ensures.err

pub link_call-returns-in-Some-clause-alloc_failed : goal.link_call-returns-in-Some-clause-alloc_failed
link_call-returns-in-Some-clause-alloc_failed g t c =
    let parts = ap (λ a. in_arguments (arguments_view a)) c.deref.ensures ∙ sym (ap (λ a. in_call (call_view a)) c.in-Some.is) in
    err_is c.link_arguments.result (λ some. subst (λ rs. AreSome rs) parts some) c.link_arguments.ensures.alloc_failed

pub link_element-returns-in-Placeable-clause-ok : goal.link_element-returns-in-Placeable-clause-ok
link_element-returns-in-Placeable-clause-ok g t c =
    let parts = sym (in_placeable_is c.args.element.now c.in-Placeable.expression c.in-Placeable.is) in
    ok_is c.link_expression.result (adds_as (slots c.args.slots.now) (slots c.link_expression.new.slots) c.args.links.now.items c.link_expression.new.links.items (in_expression (expression_view c.in-Placeable.expression)) (of_element c.args.element.now) parts) c.link_expression.ensures.ok

pub link_element-returns-in-Placeable-clause-err : goal.link_element-returns-in-Placeable-clause-err
link_element-returns-in-Placeable-clause-err g t c =
    let parts = sym (in_placeable_is c.args.element.now c.in-Placeable.expression c.in-Placeable.is) in
    err_is c.link_expression.result (begins_as (slots c.args.slots.now) (slots c.link_expression.new.slots) (in_expression (expression_view c.in-Placeable.expression)) (of_element c.args.element.now) parts) c.link_expression.ensures.err

pub link_element-returns-in-Placeable-clause-alloc_failed : goal.link_element-returns-in-Placeable-clause-alloc_failed
link_element-returns-in-Placeable-clause-alloc_failed g t c =
    let parts = sym (in_placeable_is c.args.element.now c.in-Placeable.expression c.in-Placeable.is) in
    err_is c.link_expression.result (λ some. subst (λ rs. AreSome rs) parts some) c.link_expression.ensures.alloc_failed

pub link_expression-returns-in-Inline-clause-ok : goal.link_expression-returns-in-Inline-clause-ok
link_expression-returns-in-Inline-clause-ok g t c =
    let parts = sym (in_one_is c.args.expression.now c.in-Inline.inline c.in-Inline.is) in
    ok_is c.link_inline.result (adds_as (slots c.args.slots.now) (slots c.link_inline.new.slots) c.args.links.now.items c.link_inline.new.links.items (in_inline (inline_view c.in-Inline.inline)) (in_expression (expression_view c.args.expression.now)) parts) c.link_inline.ensures.ok

pub link_expression-returns-in-Inline-clause-err : goal.link_expression-returns-in-Inline-clause-err
link_expression-returns-in-Inline-clause-err g t c =
    let parts = sym (in_one_is c.args.expression.now c.in-Inline.inline c.in-Inline.is) in
    err_is c.link_inline.result (begins_as (slots c.args.slots.now) (slots c.link_inline.new.slots) (in_inline (inline_view c.in-Inline.inline)) (in_expression (expression_view c.args.expression.now)) parts) c.link_inline.ensures.err

pub link_expression-returns-in-Inline-clause-alloc_failed : goal.link_expression-returns-in-Inline-clause-alloc_failed
link_expression-returns-in-Inline-clause-alloc_failed g t c =
    let parts = sym (in_one_is c.args.expression.now c.in-Inline.inline c.in-Inline.is) in
    err_is c.link_inline.result (λ some. subst (λ rs. AreSome rs) parts some) c.link_inline.ensures.alloc_failed

pub link_inline-returns-in-Placeable-clause-ok : goal.link_inline-returns-in-Placeable-clause-ok
link_inline-returns-in-Placeable-clause-ok g t c =
    let parts = ap (λ e. in_expression (expression_view e)) c.deref-in-Placeable.ensures ∙ sym (in_nested_is c.args.inline.now c.in-Placeable.expression c.in-Placeable.is) in
    ok_is c.link_expression.result (adds_as (slots c.args.slots.now) (slots c.link_expression.new.slots) c.args.links.now.items c.link_expression.new.links.items (in_expression (expression_view c.deref-in-Placeable.result.now)) (in_inline (inline_view c.args.inline.now)) parts) c.link_expression.ensures.ok

pub link_inline-returns-in-Placeable-clause-err : goal.link_inline-returns-in-Placeable-clause-err
link_inline-returns-in-Placeable-clause-err g t c =
    let parts = ap (λ e. in_expression (expression_view e)) c.deref-in-Placeable.ensures ∙ sym (in_nested_is c.args.inline.now c.in-Placeable.expression c.in-Placeable.is) in
    err_is c.link_expression.result (begins_as (slots c.args.slots.now) (slots c.link_expression.new.slots) (in_expression (expression_view c.deref-in-Placeable.result.now)) (in_inline (inline_view c.args.inline.now)) parts) c.link_expression.ensures.err

pub link_inline-returns-in-Placeable-clause-alloc_failed : goal.link_inline-returns-in-Placeable-clause-alloc_failed
link_inline-returns-in-Placeable-clause-alloc_failed g t c =
    let parts = ap (λ e. in_expression (expression_view e)) c.deref-in-Placeable.ensures ∙ sym (in_nested_is c.args.inline.now c.in-Placeable.expression c.in-Placeable.is) in
    err_is c.link_expression.result (λ some. subst (λ rs. AreSome rs) parts some) c.link_expression.ensures.alloc_failed

pub link_call-returns-in-None-clause-ok : goal.link_call-returns-in-None-clause-ok
link_call-returns-in-None-clause-ok g t c = adds_as (slots c.args.slots.now) (slots c.args.slots.now) c.args.links.now.items c.args.links.now.items [] (in_call (call_view c.args.arguments.now)) (sym (ap (λ a. in_call (call_view a)) c.in-None.is)) (adds_none (slots c.args.slots.now) c.args.links.now.items)

pub link_element-returns-in-TextElement-clause-ok : goal.link_element-returns-in-TextElement-clause-ok
link_element-returns-in-TextElement-clause-ok g t c = adds_as (slots c.args.slots.now) (slots c.args.slots.now) c.args.links.now.items c.args.links.now.items [] (of_element c.args.element.now) (sym (in_text_is c.args.element.now c.in-TextElement.value c.in-TextElement.is)) (adds_none (slots c.args.slots.now) c.args.links.now.items)

pub link_inline-returns-in-StringLiteral-clause-ok : goal.link_inline-returns-in-StringLiteral-clause-ok
link_inline-returns-in-StringLiteral-clause-ok g t c = adds_as (slots c.args.slots.now) (slots c.args.slots.now) c.args.links.now.items c.args.links.now.items [] (in_inline (inline_view c.args.inline.now)) (sym (in_literal_is c.args.inline.now c.in-StringLiteral.is)) (adds_none (slots c.args.slots.now) c.args.links.now.items)

pub link_inline-returns-in-StringLiteral-2-clause-ok : goal.link_inline-returns-in-StringLiteral-2-clause-ok
link_inline-returns-in-StringLiteral-2-clause-ok g t c = adds_as (slots c.args.slots.now) (slots c.args.slots.now) c.args.links.now.items c.args.links.now.items [] (in_inline (inline_view c.args.inline.now)) (sym (in_literal_is c.args.inline.now c.in-StringLiteral.is)) (adds_none (slots c.args.slots.now) c.args.links.now.items)

pub link_inline-returns-in-StringLiteral-3-clause-ok : goal.link_inline-returns-in-StringLiteral-3-clause-ok
link_inline-returns-in-StringLiteral-3-clause-ok g t c = adds_as (slots c.args.slots.now) (slots c.args.slots.now) c.args.links.now.items c.args.links.now.items [] (in_inline (inline_view c.args.inline.now)) (sym (in_literal_is c.args.inline.now c.in-StringLiteral.is)) (adds_none (slots c.args.slots.now) c.args.links.now.items)
