-- Elements of a pattern, one after the other.
use Rattle.std.proofs.Common.{◌≡◌, refl, sym, ap, ◌∙◌, ℕ, ◌+◌, ◌<◌, ◌≤◌, length, List, ◌++◌, append_assoc, map, drop, get_or, Bool, false, is_none, Option, Some, None}
use Rattle.fluent_ast.specs.Tree.{Text, Pattern, nothing, more, Element, text, placeable, Expression, pattern_of}
use Rattle.fluent_ast.specs.View.{element_view}
use Rattle.fluent_bundle_entries.specs.Texts.{IsTextAlone}
use Rattle.fluent_ast.specs.declared.ast.Pattern as of_pattern
use Rattle.fluent_ast.specs.declared.ast.PatternElement.{PatternElement}
use Rattle.fluent_semantics.specs.Ahead.{ahead, begins, comes, put}
use Rattle.fluent_semantics.specs.Bundle.{Bundle}
use Rattle.fluent_semantics.specs.Meaning.{Budget, left, limit_reached}
use Rattle.fluent_semantics.specs.Walk as walk
use Rattle.fluent_resolver_state.specs.Facts.Lists.{next_of, none_left}
use Rattle.fluent_resolver.specs.Frames.{elements_from}
use Rattle.fluent_resolver.specs.Inside.Parts as parts
use Rattle.fluent_resolver.specs.Inside.Parts.{View, Following, text_then, writes_now}
use Rattle.fluent_resolver.proofs.Telling.{puts_nothing}

-- ---- which are left

pub from_next : (p : of_pattern.Pattern) (xs : List PatternElement) (i : ℕ) (e : PatternElement) (x : Element) → xs ≡ (of_pattern.out-Pattern p).elements.items → i < length xs → e ≡ get_or xs i e → element_view e ≡ x → elements_from i p ≡ more x (elements_from (i + 1) p)
from_next p xs i e x is h at view =
    ap (λ ys. pattern_of (map element_view (drop i ys))) (sym is)
    ∙ ap (λ ys. pattern_of (map element_view ys)) (next_of xs i e h at)
    ∙ ap (λ y. more y (pattern_of (map element_view (drop (i + 1) xs)))) view
    ∙ ap (λ ys. more x (pattern_of (map element_view (drop (i + 1) ys)))) is

pub from_end : (p : of_pattern.Pattern) (xs : List PatternElement) (i : ℕ) → xs ≡ (of_pattern.out-Pattern p).elements.items → length xs ≤ i → elements_from i p ≡ nothing
from_end p xs i is h = ap (λ ys. pattern_of (map element_view (drop i ys))) (sym is) ∙ ap (λ ys. pattern_of (map element_view ys)) (none_left xs i h)

-- ---- what is ahead of them

module _ (one : Bool) (b : Bundle Text) (k : Following) (v : View) where
  next_is : (rest : Pattern) (kept : Option Text)
      → (λ t c. put (is_none kept) t (λ u. walk.elements (ahead Text) b (comes b) v.environment v.path one rest (is_none kept) (λ x. text_then k (record v { kept = kept }) (u ++ x))) c)
      ≡ text_then (λ given u. parts.elements one rest b k u) (record v { kept = kept })
  next_is rest None = refl
  next_is rest (Some own) = λ i t c. walk.elements (ahead Text) b (comes b) v.environment v.path one rest false (λ x d. k None (record v { kept = Some (joined t x i); budget = d })) c
    where
      joined : (t x : Text) → own ++ (t ++ x) ≡ (own ++ t) ++ x
      joined t x = sym (append_assoc own t x)

  step : (e : Element) (rest : Pattern) (n : Budget) → (n ≡ limit_reached → ⊥)
      → walk.elements (ahead Text) b (comes b) v.environment v.path one (more e rest) (writes_now v) (text_then k v) n
      ≡ begins (walk.part (ahead Text) b (comes b) v.environment v.path one e (writes_now v) (text_then (λ given u. parts.elements one rest b k u) v) n)
  unfolding walk.elements
  step e rest (left n) h = ap (λ next. begins (walk.part (ahead Text) b (comes b) v.environment v.path one e (writes_now v) next (left n))) (next_is rest v.kept)
  step e rest limit_reached h = absurd (h refl)

  pub text_first : (t : Text) (rest : Pattern) → (v.budget ≡ limit_reached → ⊥)
      → parts.elements one (more (text t) rest) b k v ≡ begins (text_then (λ given u. parts.elements one rest b k u) v (b.transform t) v.budget)
  unfolding walk.elements
  text_first t rest h = step (text t) rest v.budget h

  pub placeable_first : (e : Expression) (rest : Pattern) → (v.budget ≡ limit_reached → ⊥)
      → parts.elements one (more (placeable e) rest) b k v ≡ begins (parts.part one e b (λ given u. parts.elements one rest b k u) v)
  placeable_first e rest h = step (placeable e) rest v.budget h

  stop : (p : Pattern) (n : Budget) → n ≡ limit_reached → walk.elements (ahead Text) b (comes b) v.environment v.path one p (writes_now v) (text_then k v) n ≡ k None (record v { budget = n })
  unfolding walk.elements
  stop nothing n h = puts_nothing k (record v { budget = n })
  stop (more e rest) limit_reached h = puts_nothing k (record v { budget = limit_reached })
  stop (more e rest) (left n) h = cc

  pub none_at_limit : (p : Pattern) → v.budget ≡ limit_reached → parts.elements one p b k v ≡ k None v
  none_at_limit p h = stop p v.budget h

  pub none_at_end : (p : Pattern) → p ≡ nothing → parts.elements one p b k v ≡ k None v
  unfolding walk.elements
  none_at_end p is = ap (λ p. parts.elements one p b k v) is ∙ puts_nothing k v

-- a placeable is no text
pub never_text : (e : Expression) (rest : Pattern) → IsTextAlone (more (placeable e) rest) → ⊥
never_text e rest h = cc
