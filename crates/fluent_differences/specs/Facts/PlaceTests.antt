-- Two places are the same, or not, by what they are made of.
use mathlib.Core.Bool.{true≢false}
use Rattle.std.proofs.Common.{◌≡◌, ◌∙◌, ◌&&◌, ◌||◌, Bool, true, false, List, [], ◌∷◌, refl, sym, ap, subst}
use Rattle.std.specs.List.{list_any}
use Rattle.std.proofs.lemmas.Slice.Eq.{bytes_eq-Decides}
use Rattle.fluent_ast.specs.Tree.{Attribute, no_attribute, attribute, is_yes}
use Rattle.fluent_places.specs.Places.{Place, of_message, of_term, place_same, place_view, views}
use Rattle.fluent_places.specs.declared.place.Place as code
use Rattle.fluent_differences.specs.Among.{same_attribute, same_place, is_at}

and_both : (a b : Bool) → a ≡ true → b ≡ true → (a && b) ≡ true
and_both a b p q = ap (λ c. c && b) p ∙ q

and_left : (a b : Bool) → (a && b) ≡ true → a ≡ true
and_left true b h = refl
and_left false b h = h

and_right : (a b : Bool) → (a && b) ≡ true → b ≡ true
and_right true b h = h
and_right false b h = absurd (true≢false (sym h))

attribute_self : (a : Attribute) → same_attribute a a ≡ true
attribute_self no_attribute = refl
attribute_self (attribute a) = (bytes_eq-Decides a a).1 refl

attribute_is : (a b : Attribute) → same_attribute a b ≡ true → a ≡ b
attribute_is no_attribute no_attribute h = refl
attribute_is no_attribute (attribute b) h = absurd (true≢false (sym h))
attribute_is (attribute a) no_attribute h = absurd (true≢false (sym h))
attribute_is (attribute a) (attribute b) h = ap attribute ((bytes_eq-Decides a b).0 h)

place_self : (x : Place) → same_place x x ≡ true
place_self (of_message m a) = and_both _ _ ((bytes_eq-Decides m m).1 refl) (attribute_self a)
place_self (of_term t a) = and_both _ _ ((bytes_eq-Decides t t).1 refl) (attribute_self a)

place_is : (x y : Place) → same_place x y ≡ true → x ≡ y
place_is (of_message m a) (of_message n b) h = ap (λ k. of_message k a) ((bytes_eq-Decides m n).0 (and_left _ _ h)) ∙ ap (of_message n) (attribute_is a b (and_right _ _ h))
place_is (of_message m a) (of_term t b) h = absurd (true≢false (sym h))
place_is (of_term t a) (of_message m b) h = absurd (true≢false (sym h))
place_is (of_term t a) (of_term u b) h = ap (λ k. of_term k a) ((bytes_eq-Decides t u).0 (and_left _ _ h)) ∙ ap (of_term u) (attribute_is a b (and_right _ _ h))

not_same : (x y : Place) (b : Bool) → same_place x y ≡ b → (x ≡ y → ⊥) → same_place x y ≡ false
not_same x y true e other = absurd (other (place_is x y e))
not_same x y false e other = e

pub same_test : (x y : Place) → is_yes (place_same x y) ≡ same_place x y
same_test x y = by (place_same x y)
  where
    by : (d : Dec (x ≡ y)) → is_yes d ≡ same_place x y
    by (yes p) = sym (subst (λ z. same_place x z ≡ true) p (place_self x))
    by (no other) = sym (not_same x y (same_place x y) refl other)

-- one of some places of the code
pub any_place : (x : code.Place) (ks : List code.Place) → list_any (λ k. is_yes (place_same (place_view x) (place_view k))) ks ≡ is_at (place_view x) (views ks)
any_place x [] = refl
any_place x (k ∷ ks) = ap (λ b. b || list_any (λ q. is_yes (place_same (place_view x) (place_view q))) ks) (same_test (place_view x) (place_view k)) ∙ ap (λ b. same_place (place_view x) (place_view k) || b) (any_place x ks)
