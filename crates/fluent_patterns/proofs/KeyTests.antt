-- Tests of the keys of variants, and of named arguments.
use Rattle.std.proofs.Common.{◌≡◌, Bool, true, false, ◌&&◌, ◌||◌, List, [], ◌∷◌, map, refl, ap, ◌∙◌, rules}
use Rattle.std.specs.List.{list_any}
use Rattle.std.specs.Str.{bytes_eq}
use Rattle.fluent_ast.specs.Tree.{Key, Text}
use Rattle.fluent_ast.specs.View.{inline_view, key_view}
use Rattle.fluent_ast.specs.References.{nameds_view, variants_view}
use Rattle.fluent_ast.specs.declared.ast.Expression.{the_lemmas}
use Rattle.fluent_ast.specs.declared.ast.NamedArgument.{NamedArgument, out-NamedArgument}
use Rattle.fluent_ast.specs.declared.ast.Variant.{Variant, out-Variant}
use Rattle.fluent_patterns.specs.Selects.{default_keys, has_literal, is_literal, keys_of}

first_key : (x : Variant) (xs : List Variant) → keys_of (variants_view (x ∷ xs)) ≡ key_view (out-Variant x).key ∷ keys_of (variants_view xs)
first_key x xs = search (rules, the_lemmas)

pub any_key : (test : Key → Bool) (xs : List Variant) → list_any test (keys_of (variants_view xs)) ≡ list_any (λ x. test (key_view (out-Variant x).key)) xs
any_key test [] = refl
any_key test (x ∷ xs) = ap (list_any test) (first_key x xs) ∙ ap (λ b. test (key_view (out-Variant x).key) || b) (any_key test xs)

abbrev kept : Bool → Key → List Key → List Key
kept d k ks = elim d [ true ↦ k ∷ ks | false ↦ ks ]

any_kept : (test : Key → Bool) (d : Bool) (k : Key) (ks : List Key) → list_any test (kept d k ks) ≡ ((d && test k) || list_any test ks)
any_kept test true k ks = refl
any_kept test false k ks = refl

first_default : (x : Variant) (xs : List Variant) → default_keys (variants_view (x ∷ xs)) ≡ kept (out-Variant x).default (key_view (out-Variant x).key) (default_keys (variants_view xs))
first_default x xs = search (rules, the_lemmas)

pub any_default_key : (test : Key → Bool) (xs : List Variant) → list_any test (default_keys (variants_view xs)) ≡ list_any (λ x. (out-Variant x).default && test (key_view (out-Variant x).key)) xs
any_default_key test [] = refl
any_default_key test (x ∷ xs) =
    ap (list_any test) (first_default x xs)
    ∙ (any_kept test (out-Variant x).default (key_view (out-Variant x).key) (default_keys (variants_view xs))
    ∙ ap (λ b. ((out-Variant x).default && test (key_view (out-Variant x).key)) || b) (any_default_key test xs))

abbrev pub is_given : Text → Text → NamedArgument → Bool
is_given name wanted x = bytes_eq (out-NamedArgument x).name.name.now name && is_literal (inline_view (out-NamedArgument x).value) wanted

first_literal : (name wanted : Text) (x : NamedArgument) (xs : List NamedArgument) → has_literal name wanted (nameds_view (x ∷ xs)) ≡ (is_given name wanted x || has_literal name wanted (nameds_view xs))
first_literal name wanted x xs = search (rules, the_lemmas)

pub any_literal : (name wanted : Text) (xs : List NamedArgument) → has_literal name wanted (nameds_view xs) ≡ list_any (is_given name wanted) xs
any_literal name wanted [] = refl
any_literal name wanted (x ∷ xs) = first_literal name wanted x xs ∙ ap (λ b. is_given name wanted x || b) (any_literal name wanted xs)

pub any_seen : {A B : Type 0} (f : A → B) (test : B → Bool) (xs : List A) → list_any test (map f xs) ≡ list_any (λ x. test (f x)) xs
any_seen f test [] = refl
any_seen f test (x ∷ xs) = ap (λ b. test (f x) || b) (any_seen f test xs)
