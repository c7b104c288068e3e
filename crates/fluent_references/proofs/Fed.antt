-- What is fed to a hasher, part after part.
use Rattle.std.proofs.Common.{◌≡◌, ℕ, ◌+◌, ◌<◌, ◌≤◌, List, [], ◌∷◌, ◌++◌, length, get_or, drop, fold, map, sym, ap, ◌∙◌, refl, rules}
use Rattle.std.proofs.lemmas.List.{append_assoc, at_drop_more, at_drop_all}
use Rattle.std.proofs.lemmas.List.Sums.{fold-append}
use Rattle.std.specs.Hash as to_hash
use Rattle.fluent_ast.specs.Tree.{pattern_of}
use Rattle.fluent_ast.specs.View.{element_view, inline_view, key_view, pattern_view}
use Rattle.fluent_ast.specs.References.{inlines_view, nameds_view, variants_view}
use Rattle.fluent_ast.specs.declared.ast.Expression.{the_lemmas}
use Rattle.fluent_ast.specs.declared.ast.InlineExpression.{InlineExpression}
use Rattle.fluent_ast.specs.declared.ast.NamedArgument.{NamedArgument, out-NamedArgument}
use Rattle.fluent_ast.specs.declared.ast.PatternElement.{PatternElement}
use Rattle.fluent_ast.specs.declared.ast.Variant.{Variant, out-Variant}
use Rattle.fluent_references.specs.Inside.Hashed.{HasherInput, hashed, hashed_element, hashed_end, hashed_inline, hashed_key, hashed_kind, hashed_named, hashed_positional, hashed_variants}

-- parts in turn, and the end after them
module _ {P : Type 0} (all : List P → HasherInput) (one : P → HasherInput) (each : (x : P) (xs : List P) → all (x ∷ xs) ≡ one x ++ all xs) (ends : all [] ≡ hashed_end) where
  fed_more : {S : Type 0} (write : S → List ℕ → S) (xs : List P) (i : ℕ) (x : P) (old new whole : S) → i < length xs → x ≡ get_or xs i x → fold write old (all (drop i xs)) ≡ whole → new ≡ fold write old (one x) → fold write new (all (drop (i + 1) xs)) ≡ whole
  fed_more write xs i x old new whole h is e fed =
      let rest = at_drop_more all xs i x h ∙ (ap (λ y. all (y ∷ drop (i + 1) xs)) (sym is) ∙ each x (drop (i + 1) xs)) in
      ap (λ s. fold write s (all (drop (i + 1) xs))) fed ∙ (sym (fold-append write old (one x) (all (drop (i + 1) xs))) ∙ (ap (fold write old) (sym rest) ∙ e))

  fed_end : {S : Type 0} (write : S → List ℕ → S) (xs : List P) (i : ℕ) (old whole : S) → length xs ≤ i → fold write old (all (drop i xs)) ≡ whole → fold write old hashed_end ≡ whole
  fed_end write xs i old whole h e = ap (fold write old) (sym (at_drop_all all xs i h ∙ ends)) ∙ e

abbrev of_elements : List PatternElement → HasherInput
of_elements xs = hashed (pattern_of (map element_view xs))

abbrev of_variants : List Variant → HasherInput
of_variants xs = hashed_variants (variants_view xs)

abbrev of_positional : List InlineExpression → HasherInput
of_positional xs = hashed_positional (inlines_view xs)

abbrev of_named : List NamedArgument → HasherInput
of_named xs = hashed_named (nameds_view xs)

pub elements_more : {S : Type 0} (write : S → List ℕ → S) (xs : List PatternElement) (i : ℕ) (x : PatternElement) (old new whole : S) → i < length xs → x ≡ get_or xs i x → fold write old (of_elements (drop i xs)) ≡ whole → new ≡ fold write old (hashed_element (element_view x)) → fold write new (of_elements (drop (i + 1) xs)) ≡ whole
elements_more = fed_more of_elements (λ x. hashed_element (element_view x)) (λ x xs. refl) refl

pub elements_end : {S : Type 0} (write : S → List ℕ → S) (xs : List PatternElement) (i : ℕ) (old whole : S) → length xs ≤ i → fold write old (of_elements (drop i xs)) ≡ whole → fold write old hashed_end ≡ whole
elements_end = fed_end of_elements (λ x. hashed_element (element_view x)) (λ x xs. refl) refl

pub positional_more : {S : Type 0} (write : S → List ℕ → S) (xs : List InlineExpression) (i : ℕ) (x : InlineExpression) (old new whole : S) → i < length xs → x ≡ get_or xs i x → fold write old (of_positional (drop i xs)) ≡ whole → new ≡ fold write old (hashed_inline (inline_view x)) → fold write new (of_positional (drop (i + 1) xs)) ≡ whole
positional_more = fed_more of_positional (λ x. hashed_inline (inline_view x)) (λ x xs. refl) refl

pub positional_end : {S : Type 0} (write : S → List ℕ → S) (xs : List InlineExpression) (i : ℕ) (old whole : S) → length xs ≤ i → fold write old (of_positional (drop i xs)) ≡ whole → fold write old hashed_end ≡ whole
positional_end = fed_end of_positional (λ x. hashed_inline (inline_view x)) (λ x xs. refl) refl

pub variants_more : {S : Type 0} (write : S → List ℕ → S) (xs : List Variant) (i : ℕ) (x : Variant) (old new whole : S) → i < length xs → x ≡ get_or xs i x → fold write old (of_variants (drop i xs)) ≡ whole → new ≡ fold write old (hashed_key (key_view (out-Variant x).key) ++ (to_hash.bool (out-Variant x).default ++ hashed (pattern_view (out-Variant x).value))) → fold write new (of_variants (drop (i + 1) xs)) ≡ whole
variants_more = fed_more of_variants (λ x. hashed_key (key_view (out-Variant x).key) ++ (to_hash.bool (out-Variant x).default ++ hashed (pattern_view (out-Variant x).value))) (λ x xs. search (rules, the_lemmas, append_assoc)) refl

pub variants_end : {S : Type 0} (write : S → List ℕ → S) (xs : List Variant) (i : ℕ) (old whole : S) → length xs ≤ i → fold write old (of_variants (drop i xs)) ≡ whole → fold write old hashed_end ≡ whole
variants_end = fed_end of_variants (λ x. hashed_key (key_view (out-Variant x).key) ++ (to_hash.bool (out-Variant x).default ++ hashed (pattern_view (out-Variant x).value))) (λ x xs. search (rules, the_lemmas, append_assoc)) refl

pub named_more : {S : Type 0} (write : S → List ℕ → S) (xs : List NamedArgument) (i : ℕ) (x : NamedArgument) (old new whole : S) → i < length xs → x ≡ get_or xs i x → fold write old (of_named (drop i xs)) ≡ whole → new ≡ fold write old (hashed_kind 13 (out-NamedArgument x).name.name.now ++ hashed_inline (inline_view (out-NamedArgument x).value)) → fold write new (of_named (drop (i + 1) xs)) ≡ whole
named_more = fed_more of_named (λ x. hashed_kind 13 (out-NamedArgument x).name.name.now ++ hashed_inline (inline_view (out-NamedArgument x).value)) (λ x xs. search (rules, the_lemmas, append_assoc)) refl

pub named_end : {S : Type 0} (write : S → List ℕ → S) (xs : List NamedArgument) (i : ℕ) (old whole : S) → length xs ≤ i → fold write old (of_named (drop i xs)) ≡ whole → fold write old hashed_end ≡ whole
named_end = fed_end of_named (λ x. hashed_kind 13 (out-NamedArgument x).name.name.now ++ hashed_inline (inline_view (out-NamedArgument x).value)) (λ x xs. search (rules, the_lemmas, append_assoc)) refl
