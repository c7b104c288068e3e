-- Tables of places: what an insertion leaves, and what a look-up says.
use Rattle.std.proofs.Common.{◌≡◌, ◌⊎◌, ℕ, ◌+◌, ◌<◌, length, get_or, take, Bool, true, false, cond, List, [], ◌∷◌, Option, Some, None, inl, inr, refl, sym, ap, subst, ◌∙◌, if◌then◌else◌, arith}
use Rattle.std.proofs.lemmas.Bool.{false≢true}
use Rattle.indexmap.specs.IndexMap.{insert_entry}
use Rattle.fluent_ast.specs.Tree.{Text, is_yes}
use Rattle.fluent_places.specs.Places.{Place, place_same, place_view, views, Names}
use Rattle.fluent_places.specs.Needs.{IsAmong}
use Rattle.fluent_places.specs.Facts.Growing.{so_far, further, this_one}
use Rattle.fluent_places.specs.declared.place.Place as code
use Rattle.fluent_clean.specs.Inside.Table.{Known, known_of, count_in, count_of, AreRight}
use Rattle.fluent_clean.specs.Findings.{IsRight}
use Rattle.fluent_clean.specs.Inside.Steps.{keys_in, IsListing, AreUnknown, one_if_none, untaken}

pub same : {P : Type 0} (d : Dec P) → is_yes d ≡ true → P
same (yes p) h = p
same (no other) h = absurd (false≢true h)

abbrev eq : code.Place → code.Place → Bool
eq k q = is_yes (place_same (place_view k) (place_view q))

abbrev pub ins : Known → code.Place → Option ℕ → Known
ins es k v = insert_entry eq es k v

-- ---- an insertion

keys_head : (e : code.Place × Option ℕ) (es : Known) (k : code.Place) (v o : Option ℕ) (b : Bool) → (known_of es (place_view k) ≡ Some o → keys_in (ins es k v) ≡ keys_in es)
    → cond b (Some e.1) (known_of es (place_view k)) ≡ Some o → keys_in (if b then (e.0, v) ∷ es else e ∷ ins es k v) ≡ place_view e.0 ∷ keys_in es
keys_head e es k v o true rest h = refl
keys_head e es k v o false rest h = ap (λ l. place_view e.0 ∷ l) (rest h)

-- an insertion at a place that is there leaves the places
pub keys_same : (es : Known) (k : code.Place) (v o : Option ℕ) → known_of es (place_view k) ≡ Some o → keys_in (ins es k v) ≡ keys_in es
keys_same [] k v o h = absurd cc
keys_same (e ∷ es) k v o h = keys_head e es k v o (eq k e.0) (keys_same es k v o) h

less_head : (e : code.Place × Option ℕ) (es : Known) (k : code.Place) (n : ℕ) (b : Bool) → (known_of es (place_view k) ≡ Some None → untaken (ins es k (Some n)) + 1 ≡ untaken es)
    → cond b (Some e.1) (known_of es (place_view k)) ≡ Some None → untaken (if b then (e.0, Some n) ∷ es else e ∷ ins es k (Some n)) + 1 ≡ one_if_none e.1 + untaken es
less_head e es k n true rest h = let none : e.1 ≡ None = cc in omega (arith, ap one_if_none none)
less_head e es k n false rest h = omega (arith, rest h)

-- a count that wasn't known makes the unknown ones fewer
pub less_unknown : (es : Known) (k : code.Place) (n : ℕ) → known_of es (place_view k) ≡ Some None → untaken (ins es k (Some n)) + 1 ≡ untaken es
less_unknown [] k n h = absurd cc
less_unknown (e ∷ es) k n h = less_head e es k n (eq k e.0) (less_unknown es k n) h

there_head : (e : code.Place × Option ℕ) (es : Known) (k : code.Place) (v : Option ℕ) (d : Dec (place_view k ≡ place_view e.0)) → IsAmong (place_view k) (keys_in (ins es k v)) → IsAmong (place_view k) (keys_in (if is_yes d then (e.0, v) ∷ es else e ∷ ins es k v))
there_head e es k v (yes p) rest = inl p
there_head e es k v (no other) rest = inr rest

-- the place is there
pub there : (es : Known) (k : code.Place) (v : Option ℕ) → IsAmong (place_view k) (keys_in (ins es k v))
there [] k v = inl refl
there (e ∷ es) k v = there_head e es k v (place_same (place_view k) (place_view e.0)) (there es k v)

kept_head : (e : code.Place × Option ℕ) (es : Known) (k : code.Place) (v : Option ℕ) (x : Place) (b : Bool) → (IsAmong x (keys_in es) → IsAmong x (keys_in (ins es k v))) → IsAmong x (place_view e.0 ∷ keys_in es) → IsAmong x (keys_in (if b then (e.0, v) ∷ es else e ∷ ins es k v))
kept_head e es k v x true rest h = h
kept_head e es k v x false rest (inl here) = inl here
kept_head e es k v x false rest (inr later) = inr (rest later)

-- so are all others
pub kept : (es : Known) (k : code.Place) (v : Option ℕ) (x : Place) → IsAmong x (keys_in es) → IsAmong x (keys_in (ins es k v))
kept [] k v x h = absurd h
kept (e ∷ es) k v x h = kept_head e es k v x (eq k e.0) (kept es k v x) h

only_head : (e : code.Place × Option ℕ) (es : Known) (k : code.Place) (v : Option ℕ) (x : Place) (b : Bool) → (IsAmong x (keys_in (ins es k v)) → IsAmong x (keys_in es) ⊎ (x ≡ place_view k)) → IsAmong x (keys_in (if b then (e.0, v) ∷ es else e ∷ ins es k v)) → IsAmong x (place_view e.0 ∷ keys_in es) ⊎ (x ≡ place_view k)
only_head e es k v x true rest h = inl h
only_head e es k v x false rest (inl here) = inl (inl here)
only_head e es k v x false rest (inr later) = elim (rest later) [ inl h ↦ inl (inr h) | inr same ↦ inr same ]

-- and nothing else
pub only : (es : Known) (k : code.Place) (v : Option ℕ) (x : Place) → IsAmong x (keys_in (ins es k v)) → IsAmong x (keys_in es) ⊎ (x ≡ place_view k)
only [] k v x (inl here) = inr here
only [] k v x (inr never) = absurd never
only (e ∷ es) k v x h = only_head e es k v x (eq k e.0) (only es k v x) h

-- ---- what an update leaves

-- the look-ups of a table where one was updated
abbrev pub Updated : Known → Known → code.Place → Option ℕ → Type 0
Updated old new k v = (q : code.Place) → known_of new (place_view q) ≡ cond (eq k q) (Some v) (known_of old (place_view q))

right_at : (named : Names Text) (old : Known) (k q : code.Place) (n m : ℕ) (d : Dec (place_view k ≡ place_view q)) → AreRight named old → IsRight named (place_view k) n → cond (is_yes d) (Some (Some n)) (known_of old (place_view q)) ≡ Some (Some m) → IsRight named (place_view q) m
right_at named old k q n m (yes p) h j e = let counts : n ≡ m = cc in subst (λ x. IsRight named x m) p (subst (λ i. IsRight named (place_view k) i) counts j)
right_at named old k q n m (no other) h j e = h q m e

pub right_updated : (named : Names Text) (old new : Known) (k : code.Place) (n : ℕ) → Updated old new k (Some n) → AreRight named old → IsRight named (place_view k) n → AreRight named new
right_updated named old new k n u h j q m e = right_at named old k q n m (place_same (place_view k) (place_view q)) h j (sym (u q) ∙ e)

unknown_at : (old : Known) (q : code.Place) (m : ℕ) (b : Bool) → (known_of old (place_view q) ≡ Some (Some m) → ⊥) → cond b (Some None) (known_of old (place_view q)) ≡ Some (Some m) → ⊥
unknown_at old q m true h e = absurd cc
unknown_at old q m false h e = h e

pub unknown_updated : (old new : Known) (k : code.Place) → Updated old new k None → AreUnknown old → AreUnknown new
unknown_updated old new k u h q m e = unknown_at old q m (eq k q) (h q m) (sym (u q) ∙ e)

-- ---- look-ups

none_head : (e : code.Place × Option ℕ) (es : Known) (x : Place) (d : Dec (x ≡ place_view e.0)) → (known_of es x ≡ None → IsAmong x (keys_in es) → ⊥) → cond (is_yes d) (Some e.1) (known_of es x) ≡ None → IsAmong x (place_view e.0 ∷ keys_in es) → ⊥
none_head e es x (yes p) rest h among = absurd cc
none_head e es x (no other) rest h (inl here) = other here
none_head e es x (no other) rest h (inr later) = rest h later

-- nothing is found of a place that isn't there
pub none_known : (es : Known) (x : Place) → known_of es x ≡ None → IsAmong x (keys_in es) → ⊥
none_known [] x h among = among
none_known (e ∷ es) x h among = none_head e es x (place_same x (place_view e.0)) (none_known es x) h among

-- ---- the places of a table

pub listing_more : (places : List code.Place) (i : ℕ) (q : code.Place) (old new : Known) → i < length places → q ≡ get_or places i q → new ≡ ins old q None → IsListing (views (take i places)) old → IsListing (views (take (i + 1) places)) new
listing_more places i q old new h is e listing = subst (IsListing (views (take (i + 1) places))) (sym e) record {
  listed = λ x among. elim (so_far place_view places i q x h is among) [
    | inl before ↦ kept old q None x (listing.listed x before)
    | inr this ↦ subst (λ y. IsAmong y (keys_in (ins old q None))) (sym this) (there old q None)
  ];
  only = λ x among. elim (only old q None x among) [
    | inl before ↦ further place_view places i q x h is (listing.only x before)
    | inr this ↦ subst (λ y. IsAmong y (views (take (i + 1) places))) (sym this) (this_one place_view places i q h is)
  ];
}

pub listing_same : (seen : List Place) (old new : Known) (k : code.Place) (v o : Option ℕ) → known_of old (place_view k) ≡ Some o → new ≡ ins old k v → IsListing seen old → IsListing seen new
listing_same seen old new k v o h e listing =
    let same_keys : keys_in new ≡ keys_in old = ap keys_in e ∙ keys_same old k v o h in
    record {
      listed = λ x among. subst (IsAmong x) (sym same_keys) (listing.listed x among);
      only = λ x among. listing.only x (subst (IsAmong x) same_keys among);
    }

pub listing_keys : (seen : List Place) (old new : Known) → keys_in new ≡ keys_in old → IsListing seen old → IsListing seen new
listing_keys seen old new e listing = record {
  listed = λ x among. subst (IsAmong x) (sym e) (listing.listed x among);
  only = λ x among. listing.only x (subst (IsAmong x) e among);
}

-- what is known of a place that was found
pub right_known : (named : Names Text) (known : Known) (q : code.Place) (o : Option ℕ) (k : ℕ) → AreRight named known → Some o ≡ known_of known (place_view q) → o ≡ Some k → IsRight named (place_view q) (count_of known (place_view q))
right_known named known q o k right h j =
    let e : known_of known (place_view q) ≡ Some (Some k) = sym h ∙ ap Some j in
    subst (IsRight named (place_view q)) (sym (ap count_in e)) (right q k e)
