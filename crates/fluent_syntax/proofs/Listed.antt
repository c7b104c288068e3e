-- Lists of references, one after the other.
use Rattle.std.proofs.Common.{◌≡◌, ℕ, ◌+◌, ◌<◌, ◌≤◌, List, [], ◌∷◌, ◌++◌, Option, Result, Ok, Err, Vec, Box, Global, length, get_or, drop, map, refl, sym, ap, ◌∙◌, arith, rules}
use Rattle.std.specs.Result.{OnErr}
use Rattle.std.proofs.lemmas.List.{append_assoc, append-nil, length-append, map-append, at_drop_more, at_drop_all}
use Rattle.fluent_ast.specs.Tree.{pattern_of}
use Rattle.fluent_ast.specs.View.{call_view, element_view, inline_view, name_view, pattern_view}
use Rattle.fluent_ast.specs.ReferencesOf.{of_arguments, of_expression, of_inline, of_inlines, of_nameds, of_variants, references_of}
use Rattle.fluent_ast.specs.References.{AreSome, Reference, a_function, a_message, a_term, in_call, in_element, in_expression, in_inline, in_named, in_positional, in_variants, inlines_view, nameds_view, references, variants_view}
use Rattle.fluent_syntax.specs.Listing.{reference_view}
use Rattle.fluent_syntax.specs.declared.listing.Reference as code
use Rattle.fluent_ast.specs.declared.ast.CallArguments.{CallArguments, out-CallArguments}
use Rattle.fluent_ast.specs.declared.ast.Expression.{Expression, the_lemmas}
use Rattle.fluent_ast.specs.declared.ast.Expression.TheVariants.{Inline, Select}
use Rattle.fluent_ast.specs.declared.ast.Identifier.{Identifier}
use Rattle.fluent_ast.specs.declared.ast.InlineExpression.{InlineExpression}
use Rattle.fluent_ast.specs.declared.ast.InlineExpression.TheVariants.{FunctionReference, MessageReference, Placeable, TermReference}
use Rattle.fluent_ast.specs.declared.ast.NamedArgument.{NamedArgument, out-NamedArgument}
use Rattle.fluent_ast.specs.declared.ast.Pattern.{Pattern, out-Pattern}
use Rattle.fluent_ast.specs.declared.ast.PatternElement.{PatternElement}
use Rattle.fluent_ast.specs.declared.ast.Variant.{Variant, out-Variant}
use Rattle.fluent_syntax.proofs.Views.{view_function, view_inline, view_reference}

-- a list to which one is pushed
pub pushed : (old new : List code.Reference) (r : code.Reference) → new ≡ old ++ r ∷ [] → map reference_view new ≡ map reference_view old ++ reference_view r ∷ []
pushed old new r e = ap (map reference_view) e ∙ map-append reference_view old (r ∷ [])

-- a list to which some were added, and then others
pub added_both : (old mid new xs ys whole : List Reference) → mid ≡ old ++ xs → new ≡ mid ++ ys → whole ≡ xs ++ ys → new ≡ old ++ whole
added_both old mid new xs ys whole e f w = f ∙ (ap (λ v. v ++ ys) e ∙ (append_assoc old xs ys ∙ ap (λ v. old ++ v) (sym w)))

-- what is left of a list's parts, with the first of them
first_of_left : {A : Type 0} (all : List A → List Reference) (one : A → List Reference) → ((x : A) (xs : List A) → all (x ∷ xs) ≡ one x ++ all xs)
    → (xs : List A) (i : ℕ) (x : A) → i < length xs → x ≡ get_or xs i x → all (drop i xs) ≡ one x ++ all (drop (i + 1) xs)
first_of_left all one each xs i x h is = at_drop_more all xs i x h ∙ (ap (λ w. all (w ∷ drop (i + 1) xs)) (sym is) ∙ each x (drop (i + 1) xs))

-- after one more the list has those before it, and no more are left than there are
one_more : {A : Type 0} (all : List A → List Reference) (one : A → List Reference) → ((x : A) (xs : List A) → all (x ∷ xs) ≡ one x ++ all xs)
    → (xs : List A) (i : ℕ) (x : A) (old new whole : List Reference) (n : ℕ) → i < length xs → x ≡ get_or xs i x → (old ++ all (drop i xs) ≡ whole) × (length (all (drop i xs)) ≤ n) → new ≡ old ++ one x → (new ++ all (drop (i + 1) xs) ≡ whole) × (length (all (drop (i + 1) xs)) ≤ n)
one_more all one each xs i x old new whole n h is e added =
    let first = first_of_left all one each xs i x h is in (
      ap (λ w. w ++ all (drop (i + 1) xs)) added ∙ (append_assoc old (one x) (all (drop (i + 1) xs)) ∙ (ap (λ w. old ++ w) (sym first) ∙ e.0)),
      omega (arith, ap length first, length-append (one x) (all (drop (i + 1) xs)), e.1),
    )

-- nothing is left of them at the end
none_left : {A : Type 0} (all : List A → List Reference) → all [] ≡ [] → (xs : List A) (i : ℕ) (old whole : List Reference) → length xs ≤ i → old ++ all (drop i xs) ≡ whole → old ≡ whole
none_left all nil xs i old whole h e = sym (append-nil old) ∙ (ap (λ w. old ++ w) (sym (at_drop_all all xs i h ∙ nil)) ∙ e)

abbrev pub in_elements : List PatternElement → List Reference
in_elements xs = references (pattern_of (map element_view xs))

pub element_more : (xs : List PatternElement) (i : ℕ) (x : PatternElement) (old new whole : List Reference) (n : ℕ) → i < length xs → x ≡ get_or xs i x → (old ++ in_elements (drop i xs) ≡ whole) × (length (in_elements (drop i xs)) ≤ n) → new ≡ old ++ in_element (element_view x) → (new ++ in_elements (drop (i + 1) xs) ≡ whole) × (length (in_elements (drop (i + 1) xs)) ≤ n)
element_more = one_more in_elements (λ x. in_element (element_view x)) (λ x xs. refl)

pub elements_end : (xs : List PatternElement) (i : ℕ) (old whole : List Reference) → length xs ≤ i → old ++ in_elements (drop i xs) ≡ whole → old ≡ whole
elements_end = none_left in_elements refl

pub variant_more : (xs : List Variant) (i : ℕ) (x : Variant) (old new whole : List Reference) (n : ℕ) → i < length xs → x ≡ get_or xs i x → (old ++ in_variants (variants_view (drop i xs)) ≡ whole) × (length (in_variants (variants_view (drop i xs))) ≤ n) → new ≡ old ++ references (pattern_view (out-Variant x).value) → (new ++ in_variants (variants_view (drop (i + 1) xs)) ≡ whole) × (length (in_variants (variants_view (drop (i + 1) xs))) ≤ n)
variant_more = one_more (λ xs. in_variants (variants_view xs)) (λ x. references (pattern_view (out-Variant x).value)) (λ x xs. search (rules, the_lemmas))

pub variants_end : (xs : List Variant) (i : ℕ) (old whole : List Reference) → length xs ≤ i → old ++ in_variants (variants_view (drop i xs)) ≡ whole → old ≡ whole
variants_end = none_left (λ xs. in_variants (variants_view xs)) refl

pub positional_more : (xs : List InlineExpression) (i : ℕ) (x : InlineExpression) (old new whole : List Reference) (n : ℕ) → i < length xs → x ≡ get_or xs i x → (old ++ in_positional (inlines_view (drop i xs)) ≡ whole) × (length (in_positional (inlines_view (drop i xs))) ≤ n) → new ≡ old ++ in_inline (inline_view x) → (new ++ in_positional (inlines_view (drop (i + 1) xs)) ≡ whole) × (length (in_positional (inlines_view (drop (i + 1) xs))) ≤ n)
positional_more = one_more (λ xs. in_positional (inlines_view xs)) (λ x. in_inline (inline_view x)) (λ x xs. refl)

pub positional_end : (xs : List InlineExpression) (i : ℕ) (old whole : List Reference) → length xs ≤ i → old ++ in_positional (inlines_view (drop i xs)) ≡ whole → old ≡ whole
positional_end = none_left (λ xs. in_positional (inlines_view xs)) refl

pub named_more : (xs : List NamedArgument) (i : ℕ) (x : NamedArgument) (old new whole : List Reference) (n : ℕ) → i < length xs → x ≡ get_or xs i x → (old ++ in_named (nameds_view (drop i xs)) ≡ whole) × (length (in_named (nameds_view (drop i xs))) ≤ n) → new ≡ old ++ in_inline (inline_view (out-NamedArgument x).value) → (new ++ in_named (nameds_view (drop (i + 1) xs)) ≡ whole) × (length (in_named (nameds_view (drop (i + 1) xs))) ≤ n)
named_more = one_more (λ xs. in_named (nameds_view xs)) (λ x. in_inline (inline_view (out-NamedArgument x).value)) (λ x xs. search (rules, the_lemmas))

pub named_end : (xs : List NamedArgument) (i : ℕ) (old whole : List Reference) → length xs ≤ i → old ++ in_named (nameds_view (drop i xs)) ≡ whole → old ≡ whole
named_end = none_left (λ xs. in_named (nameds_view xs)) refl

-- ---- that there are some, where an allocation fails

pub where_failed : {T E Q : Type 0} (r : Result T E) → Q → OnErr r Q
where_failed (Ok x) q = tt
where_failed (Err e) q = q

pub one_is_some : (r : Reference) (rs whole : List Reference) → whole ≡ r ∷ rs → AreSome whole
one_is_some r rs whole e = omega (arith, ap length e)

pub some_first : (xs ys whole : List Reference) → whole ≡ xs ++ ys → AreSome xs → AreSome whole
some_first xs ys whole e h = omega (arith, ap length e, length-append xs ys)

pub some_last : (xs ys whole : List Reference) → whole ≡ xs ++ ys → AreSome ys → AreSome whole
some_last xs ys whole e h = omega (arith, ap length e, length-append xs ys)

some_left : {A : Type 0} (all : List A → List Reference) (one : A → List Reference) → ((x : A) (xs : List A) → all (x ∷ xs) ≡ one x ++ all xs)
    → (xs : List A) (i : ℕ) (x : A) (n : ℕ) → i < length xs → x ≡ get_or xs i x → length (all (drop i xs)) ≤ n → AreSome (one x) → 0 < n
some_left all one each xs i x n h is within some = omega (arith, ap length (first_of_left all one each xs i x h is), length-append (one x) (all (drop (i + 1) xs)))

pub element_some : (xs : List PatternElement) (i : ℕ) (x : PatternElement) (n : ℕ) → i < length xs → x ≡ get_or xs i x → length (in_elements (drop i xs)) ≤ n → AreSome (in_element (element_view x)) → 0 < n
element_some = some_left in_elements (λ x. in_element (element_view x)) (λ x xs. refl)

pub variant_some : (xs : List Variant) (i : ℕ) (x : Variant) (n : ℕ) → i < length xs → x ≡ get_or xs i x → length (in_variants (variants_view (drop i xs))) ≤ n → AreSome (references (pattern_view (out-Variant x).value)) → 0 < n
variant_some = some_left (λ xs. in_variants (variants_view xs)) (λ x. references (pattern_view (out-Variant x).value)) (λ x xs. search (rules, the_lemmas))

pub positional_some : (xs : List InlineExpression) (i : ℕ) (x : InlineExpression) (n : ℕ) → i < length xs → x ≡ get_or xs i x → length (in_positional (inlines_view (drop i xs))) ≤ n → AreSome (in_inline (inline_view x)) → 0 < n
positional_some = some_left (λ xs. in_positional (inlines_view xs)) (λ x. in_inline (inline_view x)) (λ x xs. refl)

pub named_some : (xs : List NamedArgument) (i : ℕ) (x : NamedArgument) (n : ℕ) → i < length xs → x ≡ get_or xs i x → length (in_named (nameds_view (drop i xs))) ≤ n → AreSome (in_inline (inline_view (out-NamedArgument x).value)) → 0 < n
named_some = some_left (λ xs. in_named (nameds_view xs)) (λ x. in_inline (inline_view (out-NamedArgument x).value)) (λ x xs. search (rules, the_lemmas))

-- ---- what each case of an expression refers to

pub of_function_in : (x : InlineExpression) (id : Identifier) (b : Box CallArguments Global) → x ≡ FunctionReference id b → of_inline x ≡ a_function (name_view id) ∷ of_arguments b.value
of_function_in x id b is = ap of_inline is ∙ ap in_inline (view_function id b)

pub of_message_in : (x : InlineExpression) (id : Identifier) (a : Option Identifier) → x ≡ MessageReference id a → of_inline x ≡ a_message (name_view id) ∷ []
of_message_in x id a is = ap of_inline is ∙ ap in_inline (view_reference id a)

pub of_term_in : (x : InlineExpression) (id : Identifier) (a : Option Identifier) (call : Option (Box CallArguments Global)) → x ≡ TermReference id a call → of_inline x ≡ a_term (name_view id) ∷ in_call (call_view call)
of_term_in x id a call is = ap of_inline is ∙ search (rules, the_lemmas)

pub of_placeable_in : (x : InlineExpression) (b : Box Expression Global) → x ≡ Placeable b → of_inline x ≡ of_expression b.value
of_placeable_in x b is = ap of_inline is ∙ search (rules, the_lemmas)

pub of_inline_in : (x : Expression) (i : InlineExpression) → x ≡ Inline i → of_expression x ≡ of_inline i
of_inline_in x i is = ap of_expression is ∙ ap in_expression (view_inline i)

pub of_select_in : (x : Expression) (i : InlineExpression) (vs : Vec Variant Global) → x ≡ Select i vs → of_expression x ≡ of_inline i ++ of_variants vs.items
of_select_in x i vs is = ap of_expression is ∙ search (rules, the_lemmas)

pub of_arguments_are : (a : CallArguments) → of_arguments a ≡ of_inlines (out-CallArguments a).positional.items ++ of_nameds (out-CallArguments a).named.items
of_arguments_are a = search (rules, the_lemmas)

pub of_elements_are : (p : Pattern) → references_of p ≡ in_elements (out-Pattern p).elements.items
of_elements_are p = search (rules, the_lemmas)
