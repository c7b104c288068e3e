-- Steps of a walk over a list of parts: what is left refers to what the next part does, and then the rest.
use Rattle.std.specs.Prelude.{◌≡◌, ℕ, ◌+◌, ◌<◌, List, ◌∷◌, ◌++◌, length, map, Option, drop, refl}
use Rattle.std.proofs.Common.{rules, get_or, sym, ap, subst, ◌∙◌}
use Rattle.std.proofs.lemmas.List.{drop_more}
use Rattle.fluent_ast.specs.Tree.{Text, pattern_of}
use Rattle.fluent_ast.specs.View.{element_view, variant_view, inline_view, named_view, pattern_view}
use Rattle.fluent_ast.specs.References.{Reference, references, in_inline}
use Rattle.fluent_ast.specs.ReferencesOf.{of_element, of_inline, of_inlines, of_nameds, of_variants}
use Rattle.fluent_ast.specs.declared.ast.PatternElement.{PatternElement}
use Rattle.fluent_ast.specs.declared.ast.Variant as of_the_variant
use Rattle.fluent_ast.specs.declared.ast.Variant.{Variant}
use Rattle.fluent_ast.specs.declared.ast.NamedArgument as of_the_argument
use Rattle.fluent_ast.specs.declared.ast.NamedArgument.{NamedArgument}
use Rattle.fluent_references.specs.Links.{Links, past, IsBefore}
use Rattle.fluent_references.specs.CursorLaws.{prefix, back, after_append}

-- what each part of a list refers to, and what the list does

abbrev pub in_elements : List PatternElement → List Reference
in_elements es = references (pattern_of (map element_view es))

abbrev pub of_variant : Variant → List Reference
of_variant v = references (pattern_view v.value)

abbrev pub of_named : NamedArgument → List Reference
of_named n = in_inline (inline_view n.value)

-- the list refers to what its first part does and then to what the others do
abbrev pub IsInTurn : {X : Type 0} → (X → List Reference) → (List X → List Reference) → Type 0
IsInTurn {X = X} f L = (x : X) (xs : List X) → L (x ∷ xs) ≡ f x ++ L xs

pub element_in_turn : IsInTurn of_element in_elements
element_in_turn e es = refl

view_value : (v : Variant) → (variant_view v).1 ≡ pattern_view v.value
view_value v = search (rules, of_the_variant.the_lemmas)

pub variant_in_turn : IsInTurn of_variant of_variants
variant_in_turn v vs = ap (λ p. references p ++ of_variants vs) (view_value v)

pub positional_in_turn : IsInTurn of_inline of_inlines
positional_in_turn x xs = refl

view_argument : (n : NamedArgument) → (named_view n).1 ≡ inline_view n.value
view_argument n = search (rules, of_the_argument.the_lemmas)

pub named_in_turn : IsInTurn of_named of_nameds
named_in_turn n ns = ap (λ x. in_inline x ++ of_nameds ns) (view_argument n)

-- a loop over parts in turn, at its part x, the i-th
module _ {X : Type 0} (f : X → List Reference) (L : List X → List Reference) (step : IsInTurn f L) (xs : List X) (i : ℕ) (x : X) (h : i < length xs) (is : x ≡ get_or xs i x) where
  pub here : L (drop i xs) ≡ f x ++ L (drop (i + 1) xs)
  here = ap L (drop_more xs i x h ∙ ap (λ y. y ∷ drop (i + 1) xs) (sym is)) ∙ step x (drop (i + 1) xs)

  -- it was passed over
  pub passed : (p q r : Links) → q ≡ past (f x) p → past (L (drop i xs)) p ≡ r → past (L (drop (i + 1) xs)) q ≡ r
  passed p q r at kept =
      ap (past (L (drop (i + 1) xs))) at
      ∙ (sym (after_append (f x) (L (drop (i + 1) xs)) p)
      ∙ (ap (λ rs. past rs p) (sym here) ∙ kept))

  -- it may be entered
  pub enters : (number : Text → Option ℕ) (p : Links) → IsBefore number (L (drop i xs)) p → IsBefore number (f x) p
  enters number p at = prefix number (f x) (L (drop (i + 1) xs)) p (subst (λ rs. IsBefore number rs p) here at)

  -- after it stand the others
  pub leaves : (number : Text → Option ℕ) (p q : Links) → q ≡ past (f x) p → IsBefore number (L (drop i xs)) p → IsBefore number (L (drop (i + 1) xs)) q
  leaves number p q is_after at = subst (λ q. IsBefore number (L (drop (i + 1) xs)) q) (sym is_after) (back number (f x) (L (drop (i + 1) xs)) p (subst (λ rs. IsBefore number rs p) here at))
