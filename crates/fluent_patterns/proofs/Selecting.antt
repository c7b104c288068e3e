-- Parts of a pattern, passed one after the other.
use Rattle.std.proofs.Common.{◌≡◌, ℕ, ◌+◌, ◌<◌, ◌≤◌, List, [], ◌∷◌, length, get_or, drop, map, fold, refl, sym, ap, ◌∙◌, rules}
use Rattle.std.proofs.lemmas.List.{at_drop_more, at_drop_all}
use Rattle.fluent_ast.specs.Tree.{Inline, Variants, pattern_of, select}
use Rattle.fluent_ast.specs.View.{element_view, inline_view, key_view, pattern_view}
use Rattle.fluent_ast.specs.References.{inlines_view, nameds_view, variants_view}
use Rattle.fluent_ast.specs.declared.ast.Expression.{the_lemmas}
use Rattle.fluent_ast.specs.declared.ast.InlineExpression.{InlineExpression}
use Rattle.fluent_ast.specs.declared.ast.NamedArgument.{NamedArgument, out-NamedArgument}
use Rattle.fluent_ast.specs.declared.ast.PatternElement.{PatternElement}
use Rattle.fluent_ast.specs.declared.ast.Variant.{Variant, out-Variant}
use Rattle.fluent_patterns.specs.Categories.{Categories, Category}
use Rattle.fluent_patterns.specs.Selects.{Passed, Sense, after_element, after_expression, after_inline, after_key, after_named, after_pattern, after_positional, after_select, after_variants, asked_by, keys_of, lacked, sense_of, with_sense}

-- one more part is passed
one_more : {A S W : Type 0} (all : List A → S → W) (one : A → S → S) → ((x : A) (xs : List A) (s : S) → all (x ∷ xs) s ≡ all xs (one x s))
    → (xs : List A) (i : ℕ) (x : A) (old new : S) (whole : W) → i < length xs → x ≡ get_or xs i x → all (drop i xs) old ≡ whole → new ≡ one x old → all (drop (i + 1) xs) new ≡ whole
one_more all one each xs i x old new whole h is e added =
    ap (all (drop (i + 1) xs)) added
    ∙ (sym (each x (drop (i + 1) xs) old)
    ∙ (ap (λ w. all (w ∷ drop (i + 1) xs) old) is
    ∙ (sym (at_drop_more (λ l. all l old) xs i x h) ∙ e)))

-- no part is left at the end
none_left : {A S : Type 0} (all : List A → S → S) → ((s : S) → all [] s ≡ s) → (xs : List A) (i : ℕ) (old whole : S) → length xs ≤ i → all (drop i xs) old ≡ whole → old ≡ whole
none_left all nil xs i old whole h e = sym (nil old) ∙ (sym (at_drop_all (λ l. all l old) xs i h) ∙ e)

pub element_more : (c : Categories) (xs : List PatternElement) (i : ℕ) (x : PatternElement) (old new whole : Passed) → i < length xs → x ≡ get_or xs i x → after_pattern c (pattern_of (map element_view (drop i xs))) old ≡ whole → new ≡ after_element c (element_view x) old → after_pattern c (pattern_of (map element_view (drop (i + 1) xs))) new ≡ whole
element_more c = one_more (λ xs. after_pattern c (pattern_of (map element_view xs))) (λ x. after_element c (element_view x)) (λ x xs s. refl)

pub elements_end : (c : Categories) (xs : List PatternElement) (i : ℕ) (old whole : Passed) → length xs ≤ i → after_pattern c (pattern_of (map element_view (drop i xs))) old ≡ whole → old ≡ whole
elements_end c = none_left (λ xs. after_pattern c (pattern_of (map element_view xs))) (λ s. refl)

pub positional_more : (c : Categories) (xs : List InlineExpression) (i : ℕ) (x : InlineExpression) (old new whole : Passed) → i < length xs → x ≡ get_or xs i x → after_positional c (inlines_view (drop i xs)) old ≡ whole → new ≡ after_inline c (inline_view x) old → after_positional c (inlines_view (drop (i + 1) xs)) new ≡ whole
positional_more c = one_more (λ xs. after_positional c (inlines_view xs)) (λ x. after_inline c (inline_view x)) (λ x xs s. refl)

pub positional_end : (c : Categories) (xs : List InlineExpression) (i : ℕ) (old whole : Passed) → length xs ≤ i → after_positional c (inlines_view (drop i xs)) old ≡ whole → old ≡ whole
positional_end c = none_left (λ xs. after_positional c (inlines_view xs)) (λ s. refl)

pub named_more : (c : Categories) (xs : List NamedArgument) (i : ℕ) (x : NamedArgument) (old new whole : Passed) → i < length xs → x ≡ get_or xs i x → after_named c (nameds_view (drop i xs)) old ≡ whole → new ≡ after_inline c (inline_view (out-NamedArgument x).value) old → after_named c (nameds_view (drop (i + 1) xs)) new ≡ whole
named_more c = one_more (λ xs. after_named c (nameds_view xs)) (λ x. after_inline c (inline_view (out-NamedArgument x).value)) (λ x xs s. search (rules, the_lemmas))

pub named_end : (c : Categories) (xs : List NamedArgument) (i : ℕ) (old whole : Passed) → length xs ≤ i → after_named c (nameds_view (drop i xs)) old ≡ whole → old ≡ whole
named_end c = none_left (λ xs. after_named c (nameds_view xs)) (λ s. refl)

-- a variant with its key and its value
after_variant : Categories → List Category → Variant → List Sense × Passed → List Sense × Passed
after_variant c asked x p =
    let v = out-Variant x in
    (with_sense p.0 (sense_of (key_view v.key)), after_pattern c (pattern_view v.value) (after_key asked p.0 (key_view v.key) v.default p.1))

after_them : Categories → List Category → List Variant → List Sense × Passed → Passed
after_them c asked xs p = after_variants c asked p.0 (variants_view xs) p.1

variant_each : (c : Categories) (asked : List Category) (x : Variant) (xs : List Variant) (p : List Sense × Passed) → after_them c asked (x ∷ xs) p ≡ after_them c asked xs (after_variant c asked x p)
unfolding after_them after_variant
variant_each c asked x xs p = search (rules, the_lemmas)

pub variant_more : (c : Categories) (asked : List Category) (xs : List Variant) (i : ℕ) (x : Variant) (before before' : List Sense) (old middle new whole : Passed) → i < length xs → x ≡ get_or xs i x
    → after_variants c asked before (variants_view (drop i xs)) old ≡ whole
    → before' ≡ with_sense before (sense_of (key_view (out-Variant x).key))
    → middle ≡ after_key asked before (key_view (out-Variant x).key) (out-Variant x).default old
    → new ≡ after_pattern c (pattern_view (out-Variant x).value) middle
    → after_variants c asked before' (variants_view (drop (i + 1) xs)) new ≡ whole
unfolding after_them after_variant
variant_more c asked xs i x before before' old middle new whole h is e b k p =
    one_more (after_them c asked) (after_variant c asked) (variant_each c asked) xs i x (before, old) (before', new) whole h is e
    (ap (λ y. (y, new)) b
    ∙ ap (λ y. (with_sense before (sense_of (key_view (out-Variant x).key)), y)) (p ∙ ap (after_pattern c (pattern_view (out-Variant x).value)) k))

pub variants_end : (c : Categories) (asked : List Category) (xs : List Variant) (i : ℕ) (before : List Sense) (old whole : Passed) → length xs ≤ i → after_variants c asked before (variants_view (drop i xs)) old ≡ whole → old ≡ whole
variants_end c asked xs i before = none_left (λ xs. after_variants c asked before (variants_view xs)) (λ s. refl) xs i

-- a select, its selector first
pub select_passed : (c : Categories) (x : Inline) (vs : Variants) (asked : List Category) (old selector itself new : Passed)
    → selector ≡ after_inline c x old → asked ≡ asked_by c x (keys_of vs) → itself ≡ after_select (lacked c.all asked vs) selector → new ≡ after_variants c asked [] vs itself → new ≡ after_expression c (select x vs) old
select_passed c x vs asked old selector itself new a b d e =
    e
    ∙ (ap (after_variants c asked [] vs) (d ∙ ap (after_select (lacked c.all asked vs)) a)
    ∙ ap (λ l. after_variants c l [] vs (after_select (lacked c.all l vs) (after_inline c x old))) b)

-- ---- keys

abbrev gathered : List Sense → List Variant → List Sense
gathered senses xs = fold (λ senses k. with_sense senses (sense_of k)) senses (keys_of (variants_view xs))

pub sense_more : (xs : List Variant) (i : ℕ) (x : Variant) (old new whole : List Sense) → i < length xs → x ≡ get_or xs i x → gathered old (drop i xs) ≡ whole → new ≡ with_sense old (sense_of (key_view (out-Variant x).key)) → gathered new (drop (i + 1) xs) ≡ whole
sense_more = one_more (λ xs s. gathered s xs) (λ x s. with_sense s (sense_of (key_view (out-Variant x).key))) (λ x xs s. search (rules, the_lemmas))

pub senses_end : (xs : List Variant) (i : ℕ) (old whole : List Sense) → length xs ≤ i → gathered old (drop i xs) ≡ whole → old ≡ whole
senses_end = none_left (λ xs s. gathered s xs) (λ s. refl)
