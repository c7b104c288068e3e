-- Patterns of one text.
use Rattle.std.proofs.Common.{◌≡◌, refl, ap, List, [], ◌∷◌, length, map, None, Some}
use Rattle.fluent_ast.specs.Tree.{Element, Pattern, Text, text, placeable, more, nothing, pattern_of}
use Rattle.fluent_ast.specs.View.{element_view}
use Rattle.fluent_ast.specs.declared.ast.PatternElement.{PatternElement}
use Rattle.fluent_bundle_entries.specs.Texts.{sole_text}

pub sole_none : (es : List PatternElement) → (length es ≡ 1 → ⊥) → sole_text (pattern_of (map element_view es)) ≡ None
sole_none [] h = refl
sole_none (e ∷ []) h = absurd (h refl)
sole_none (e ∷ f ∷ es) h = by_first (element_view e)
  where
    by_first : (v : Element) → sole_text (more v (pattern_of (map element_view (f ∷ es)))) ≡ None
    by_first (text t) = refl
    by_first (placeable x) = refl

-- what has one text is that text
pub sole_is : (p : Pattern) (x : Text) → sole_text p ≡ Some x → p ≡ more (text x) nothing
sole_is nothing x is = cc
sole_is (more (text y) nothing) x is = let same : y ≡ x = cc in ap (λ z. more (text z) nothing) same
sole_is (more (text y) (more e p)) x is = cc
sole_is (more (placeable e) p) x is = cc
