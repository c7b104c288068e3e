-- Lists of places, one after the other.
use Rattle.std.proofs.Common.{◌≡◌, ℕ, ◌+◌, ◌<◌, ◌≤◌, List, [], ◌∷◌, ◌++◌, length, get_or, drop, map, refl, sym, ap, ◌∙◌}
use Rattle.std.proofs.Common.{Global}
use Rattle.std.specs.declared.vec.Vec.{Vec}
use Rattle.std.proofs.lemmas.List.{append_assoc, append-nil, map-append, at_drop_more, at_drop_all}
use Rattle.fluent_ast.specs.Tree.{Attribute, attribute}
use Rattle.fluent_ast.specs.View.{attribute_view, entry_view}
use Rattle.fluent_ast.specs.declared.ast.Attribute as of_attribute
use Rattle.fluent_ast.specs.declared.ast.Entry as of_entry
use Rattle.fluent_places.specs.Places.{Place, place_view, views, attribute_places, places_of, places_in}
use Rattle.fluent_places.specs.Inside.Listing.{AddsPlaces}
use Rattle.fluent_places.specs.declared.place.Place as code

-- a list to which one is pushed
pub pushed : (old new : List code.Place) (x : code.Place) → new ≡ old ++ x ∷ [] → views new ≡ views old ++ place_view x ∷ []
pushed old new x e = ap views e ∙ map-append place_view old (x ∷ [])

-- one is pushed, then others are added
pub pushed_then : (old mid new : Vec code.Place Global) (x : code.Place) (these : List Place) → mid.items ≡ old.items ++ x ∷ [] → AddsPlaces mid new these → AddsPlaces old new (place_view x ∷ these)
pushed_then old mid new x these e adds = adds ∙ (ap (λ l. l ++ these) (pushed old.items mid.items x e) ∙ append_assoc (views old.items) (place_view x ∷ []) these)

one_more : {A : Type 0} (all : List A → List Place) (one : A → List Place) → ((x : A) (xs : List A) → all (x ∷ xs) ≡ one x ++ all xs)
    → (xs : List A) (i : ℕ) (x : A) (old new whole : List Place) → i < length xs → x ≡ get_or xs i x → old ++ all (drop i xs) ≡ whole → new ≡ old ++ one x → new ++ all (drop (i + 1) xs) ≡ whole
one_more all one each xs i x old new whole h is e added =
    ap (λ w. w ++ all (drop (i + 1) xs)) added ∙ (append_assoc old (one x) (all (drop (i + 1) xs)) ∙ (ap (λ w. old ++ w) (sym (at_drop_more all xs i x h ∙ (ap (λ w. all (w ∷ drop (i + 1) xs)) (sym is) ∙ each x (drop (i + 1) xs)))) ∙ e))

none_left : {A : Type 0} (all : List A → List Place) → all [] ≡ [] → (xs : List A) (i : ℕ) (old whole : List Place) → length xs ≤ i → old ++ all (drop i xs) ≡ whole → old ≡ whole
none_left all nil xs i old whole h e = sym (append-nil old) ∙ (ap (λ w. old ++ w) (sym (at_drop_all all xs i h ∙ nil)) ∙ e)

pub attribute_more : (at : Attribute → Place) (xs : List of_attribute.Attribute) (i : ℕ) (x : of_attribute.Attribute) (old new : List code.Place) (p : code.Place) (whole : List Place) → i < length xs → x ≡ get_or xs i x
    → views old ++ attribute_places at (map attribute_view (drop i xs)) ≡ whole → new ≡ old ++ p ∷ [] → place_view p ≡ at (attribute x.id.name.now) → views new ++ attribute_places at (map attribute_view (drop (i + 1) xs)) ≡ whole
attribute_more at xs i x old new p whole h is e push this =
    one_more (λ ys. attribute_places at (map attribute_view ys)) (λ y. at (attribute y.id.name.now) ∷ []) (λ y ys. refl) xs i x (views old) (views new) whole h is e (pushed old new p push ∙ ap (λ q. views old ++ q ∷ []) this)

pub attributes_end : (at : Attribute → Place) (xs : List of_attribute.Attribute) (i : ℕ) (old : List code.Place) (whole : List Place) → length xs ≤ i → views old ++ attribute_places at (map attribute_view (drop i xs)) ≡ whole → views old ≡ whole
attributes_end at xs i old whole = none_left (λ ys. attribute_places at (map attribute_view ys)) refl xs i (views old) whole

pub entry_more : (xs : List of_entry.Entry) (i : ℕ) (x : of_entry.Entry) (old new : Vec code.Place Global) (whole : List Place) → i < length xs → x ≡ get_or xs i x
    → views old.items ++ places_in (map entry_view (drop i xs)) ≡ whole → AddsPlaces old new (places_of (entry_view x)) → views new.items ++ places_in (map entry_view (drop (i + 1) xs)) ≡ whole
entry_more xs i x old new whole h is e adds = one_more (λ ys. places_in (map entry_view ys)) (λ y. places_of (entry_view y)) (λ y ys. refl) xs i x (views old.items) (views new.items) whole h is e adds

pub entries_end : (xs : List of_entry.Entry) (i : ℕ) (old : List code.Place) (whole : List Place) → length xs ≤ i → views old ++ places_in (map entry_view (drop i xs)) ≡ whole → views old ≡ whole
entries_end xs i old whole = none_left (λ ys. places_in (map entry_view ys)) refl xs i (views old) whole
