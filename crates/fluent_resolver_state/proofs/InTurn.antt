-- Variants, one after the other.
use Rattle.std.proofs.Common.{rules, ◌≡◌, ℕ, ◌+◌, ◌<◌, List, ◌∷◌, length, get_or, drop, map, ap, sym, subst, ◌∙◌, cond, Bool, false, Option, Some}
use Rattle.fluent_ast.specs.References.{references}
use Rattle.fluent_ast.specs.ReferencesOf.{of_variants}
use Rattle.fluent_ast.specs.Tree.{Key, Pattern, Text, Variants, variants_of}
use Rattle.fluent_ast.specs.View.{key_view, pattern_view, variant_view}
use Rattle.fluent_ast.specs.declared.ast.Variant as of_the_variant
use Rattle.fluent_ast.specs.declared.ast.Variant.{Variant}
use Rattle.fluent_references.specs.Links.{IsBefore, Links, past}
use Rattle.fluent_references.specs.CursorSteps.{enters, leaves, of_variant, variant_in_turn}
use Rattle.fluent_references.specs.Cursors.{seen}
use Rattle.fluent_references.specs.declared.cursor.Cursor.{Cursor}
use Rattle.fluent_resolver_state.specs.Choice.{choice, first_default}
use Rattle.fluent_resolver_state.specs.declared.variants.Chosen.{Chosen}
use Rattle.fluent_resolver_state.specs.Facts.Lists.{next_of}

module _ (number : Text → Option ℕ) (vs : List Variant) (i : ℕ) (v : Variant) (h : i < length vs) (is : v ≡ get_or vs i v) where
  -- the next variant begins there
  pub begins_here : (c : Chosen) (p : Cursor) → pattern_view c.pattern.now ≡ pattern_view v.value → c.cursor ≡ p → IsBefore number (of_variants (drop i vs)) (seen p) → IsBefore number (references (pattern_view c.pattern.now)) (seen c.cursor)
  begins_here c p same at before =
      subst (λ x. IsBefore number (references x) (seen c.cursor)) (sym same)
      (subst (λ q. IsBefore number (of_variant v) (seen q)) (sym at) (enters of_variant of_variants variant_in_turn vs i v h is number (seen p) before))

  -- the others begin after it
  pub begins_after : (p q : Links) → q ≡ past (of_variant v) p → IsBefore number (of_variants (drop i vs)) p → IsBefore number (of_variants (drop (i + 1) vs)) q
  begins_after p q at before = leaves of_variant of_variants variant_in_turn vs i v h is number p q at before

-- ---- which variant is chosen

view_default : (v : Variant) → (variant_view v).2 ≡ v.default
view_default v = search (rules, of_the_variant.the_lemmas)

view_key : (v : Variant) → (variant_view v).0 ≡ key_view v.key
view_key v = search (rules, of_the_variant.the_lemmas)

module _ (vs : List Variant) (i : ℕ) (v : Variant) (h : i < length vs) (is : v ≡ get_or vs i v) where
  left : ℕ → Variants
  left n = variants_of (map variant_view (drop n vs))

  here : left i ≡ variants_of (map variant_view (v ∷ drop (i + 1) vs))
  unfolding left
  here = ap (λ l. variants_of (map variant_view l)) (next_of vs i v h is)

  -- it is no default, so the first is among the others
  pub not_default : v.default ≡ false → first_default (variants_of (map variant_view (drop i vs))) ≡ first_default (variants_of (map variant_view (drop (i + 1) vs)))
  unfolding left
  not_default is_not = ap first_default here ∙ ap (λ d. cond d (Some (variant_view v).1) (first_default (left (i + 1)))) (view_default v ∙ is_not)

  -- its key is not like the value, so the choice is among the others
  pub not_like : (goes : Key → Bool) (otherwise : Option Pattern) (r : Bool) → r ≡ goes (key_view v.key) → r ≡ false → choice goes otherwise (variants_of (map variant_view (drop i vs))) ≡ choice goes otherwise (variants_of (map variant_view (drop (i + 1) vs)))
  unfolding left
  not_like goes otherwise r like is_not =
      ap (choice goes otherwise) here
      ∙ ap (λ d. cond d (Some (variant_view v).1) (choice goes otherwise (left (i + 1)))) (ap goes (view_key v) ∙ sym like ∙ is_not)
