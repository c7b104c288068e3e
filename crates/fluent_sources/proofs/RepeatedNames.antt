-- Attributes, one after the other, by the names before them.
use Rattle.std.proofs.Common.{◌≡◌, ◌∙◌, Bool, true, false, not, List, [], ◌∷◌, ◌++◌, Some, None, refl, sym, ap, if◌then◌else◌}
use Rattle.std.specs.Borrow.{Bor}
use Rattle.std.specs.List.{list_any}
use Rattle.std.specs.Prelude.{bytes_eq}
use Rattle.std.proofs.lemmas.List.{append_assoc}
use Rattle.indexmap.specs.IndexSet.{insert_key}
use Rattle.fluent_places.specs.Asked.{texts}
use Rattle.fluent_patterns.specs.Found.{Found, whole, repeated_attribute}
use Rattle.fluent_sources.proofs.Inserted.{any_of_texts, inserted}
use Rattle.fluent_ast.specs.Tree.{Text}
use Rattle.fluent_sources.specs.Repeated.{attribute_in, is_among, names_with, repeated_at, repeated_attributes}
use Rattle.fluent_sources.specs.Standing.{Standing, found_at}

module _ (s : Standing) (names : List Text) (ss : List Standing) where
  pub begins : attribute_in s.1.place ≡ None → repeated_attributes names (s ∷ ss) ≡ repeated_attributes [] ss
  begins e = ap (λ o. repeated_at names o s ++ repeated_attributes (names_with names o) ss) e

  pub again : (name : Text) → attribute_in s.1.place ≡ Some name → is_among name names ≡ true → repeated_attributes names (s ∷ ss) ≡ found_at s whole repeated_attribute ∷ repeated_attributes names ss
  again name e h =
      ap (λ o. repeated_at names o s ++ repeated_attributes (names_with names o) ss) e
      ∙ ap (λ b. (if b then found_at s whole repeated_attribute ∷ [] else []) ++ repeated_attributes (if b then names else names ++ name ∷ []) ss) h

  pub first : (name : Text) → attribute_in s.1.place ≡ Some name → is_among name names ≡ false → repeated_attributes names (s ∷ ss) ≡ repeated_attributes (names ++ name ∷ []) ss
  first name e h =
      ap (λ o. repeated_at names o s ++ repeated_attributes (names_with names o) ss) e
      ∙ ap (λ b. (if b then found_at s whole repeated_attribute ∷ [] else []) ++ repeated_attributes (if b then names else names ++ name ∷ []) ss) h

-- ---- by a set of names

not_not : (b : Bool) → not (not b) ≡ b
not_not true = refl
not_not false = refl

-- it was inserted where it was not among them
pub among : (name : Bor Text) (keys : List (Bor Text)) (is_new : Bool) → is_new ≡ not (list_any (λ k. bytes_eq name.now k.now) keys) → is_among name.now (texts keys) ≡ not is_new
among name keys is_new e = sym (any_of_texts name.now keys) ∙ (sym (not_not (list_any (λ k. bytes_eq name.now k.now) keys)) ∙ ap not (sym e))

module _ (s : Standing) (name : Bor Text) (keys keys' : List (Bor Text)) (of : Some name.now ≡ attribute_in s.1.place) (more : keys' ≡ insert_key (λ a b. bytes_eq a.now b.now) keys name) where
  texts_after : (b : Bool) → is_among name.now (texts keys) ≡ b → texts keys' ≡ (if b then texts keys else texts keys ++ name.now ∷ [])
  texts_after b e = ap texts more ∙ (inserted name keys ∙ ap (λ z. if z then texts keys else texts keys ++ name.now ∷ []) e)

  pub name_noted : (found : List Found) (ss : List Standing) → is_among name.now (texts keys) ≡ false → found ++ repeated_attributes (texts keys') ss ≡ found ++ repeated_attributes (texts keys) (s ∷ ss)
  name_noted found ss e = ap (λ l. found ++ l) (ap (λ ns. repeated_attributes ns ss) (texts_after false e) ∙ sym (first s (texts keys) ss name.now (sym of) e))

  pub name_again : (found found' : List Found) (ss : List Standing) → is_among name.now (texts keys) ≡ true → found' ≡ found ++ found_at s whole repeated_attribute ∷ []
      → found' ++ repeated_attributes (texts keys') ss ≡ found ++ repeated_attributes (texts keys) (s ∷ ss)
  name_again found found' ss e told =
      let x = found_at s whole repeated_attribute in
      ap (λ l. l ++ repeated_attributes (texts keys') ss) told
      ∙ (append_assoc found (x ∷ []) (repeated_attributes (texts keys') ss)
      ∙ (ap (λ ns. found ++ x ∷ repeated_attributes ns ss) (texts_after true e)
      ∙ ap (λ l. found ++ l) (sym (again s (texts keys) ss name.now (sym of) e))))
