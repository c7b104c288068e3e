-- Places of a bundle, one after the other, and looked up.
use Rattle.std.proofs.Common.{◌≡◌, ◌∙◌, ℕ, suc, ◌+◌, ◌<◌, ◌≤◌, ◌&&◌, not, cond, nat_lt, Bool, true, false, List, [], ◌∷◌, ◌++◌, length, map, Option, Some, None, refl, sym, ap, if◌then◌else◌, rules, arith}
use Rattle.std.specs.List.{list_any, position, position_or_len, slice_get}
use Rattle.std.specs.Option.{option_and_then, option_map}
use Rattle.std.proofs.lemmas.List.{append_assoc, append-nil, length-map, map-append}
use Rattle.std.proofs.lemmas.Option.{slice_get_past, slice_get_read, slice_get-map}
use Rattle.std.specs.Borrow.{Bor}
use Rattle.std.specs.Slice.{IsItemAt}
use Rattle.indexmap.specs.IndexSet.{insert_key}
use Rattle.fluent_ast.specs.Tree.{Text, is_yes}
use Rattle.fluent_places.specs.Places.{Place, Names, place_same, place_view, views}
use Rattle.fluent_places.specs.declared.place.Place as code_place
use Rattle.fluent_differences.specs.Among.{is_at, same_place}
use Rattle.fluent_check.specs.Places.{first_at, first_places, place_of, places_of, stands}
use Rattle.fluent_sources.specs.Standing.{Standing, standing_view}
use Rattle.fluent_sources.specs.declared.standing.Standing as code
use Rattle.fluent_differences.specs.Facts.PlaceTests.{any_place, same_test}

module _ (named : Names Text) (seen : List Place) (s : Standing) (ss : List Standing) where
  step_if : (b : Bool) → (stands named (place_of s) && not (is_at (place_of s) seen)) ≡ b
      → first_places named seen (s ∷ ss) ≡ (if b then s ∷ first_places named (seen ++ place_of s ∷ []) ss else first_places named seen ss)
  step_if b e = ap (λ z. if z then s ∷ first_places named (seen ++ place_of s ∷ []) ss else first_places named seen ss) e

  -- no pattern stands there
  pub passed_over : stands named (place_of s) ≡ false → first_places named seen (s ∷ ss) ≡ first_places named seen ss
  passed_over none = step_if false (ap (λ b. b && not (is_at (place_of s) seen)) none)

  -- its place is passed
  pub passed_again : stands named (place_of s) ≡ true → is_at (place_of s) seen ≡ true → first_places named seen (s ∷ ss) ≡ first_places named seen ss
  passed_again some is = step_if false (ap (λ b. b && not (is_at (place_of s) seen)) some ∙ ap not is)

  -- it is the first of its place
  pub kept_first : stands named (place_of s) ≡ true → is_at (place_of s) seen ≡ false → first_places named seen (s ∷ ss) ≡ s ∷ first_places named (seen ++ place_of s ∷ []) ss
  kept_first some isnt = step_if true (ap (λ b. b && not (is_at (place_of s) seen)) some ∙ ap not isnt)

-- ---- keys

not_not : (b : Bool) → not (not b) ≡ b
not_not true = refl
not_not false = refl

-- a place was inserted where it was not among them
pub among : (x : code_place.Place) (keys : List code_place.Place) (is_new : Bool) → is_new ≡ not (list_any (λ k. is_yes (place_same (place_view x) (place_view k))) keys) → is_at (place_view x) (views keys) ≡ not is_new
among x keys is_new e = sym (any_place x keys) ∙ (sym (not_not (list_any (λ k. is_yes (place_same (place_view x) (place_view k))) keys)) ∙ ap not (sym e))

views_if : (b : Bool) (x : code_place.Place) (keys : List code_place.Place) → views (if b then keys else keys ++ x ∷ []) ≡ (if b then views keys else views keys ++ place_view x ∷ [])
views_if true x keys = refl
views_if false x keys = map-append place_view keys (x ∷ [])

pub keys_after : (x : code_place.Place) (keys keys' : List code_place.Place) (b : Bool) → keys' ≡ insert_key (λ p q. is_yes (place_same (place_view p) (place_view q))) keys x → is_at (place_view x) (views keys) ≡ b
    → views keys' ≡ (if b then views keys else views keys ++ place_view x ∷ [])
keys_after x keys keys' b e is = ap views (e ∙ ap (λ z. if z then keys else keys ++ x ∷ []) (any_place x keys ∙ is)) ∙ views_if b x keys

-- ---- one more

module _ (named : Names Text) (s : Standing) (x : code_place.Place) (keys keys' : List code_place.Place) (of : place_of s ≡ place_view x) (some : stands named (place_of s) ≡ true)
    (more : keys' ≡ insert_key (λ p q. is_yes (place_same (place_view p) (place_view q))) keys x) where
  module _ (is : is_at (place_view x) (views keys) ≡ true) where
    pub same_rest : (list ss : List Standing) → list ++ first_places named (views keys') ss ≡ list ++ first_places named (views keys) (s ∷ ss)
    same_rest list ss =
        ap (λ l. list ++ l) (ap (λ ks. first_places named ks ss) (keys_after x keys keys' true more is) ∙ sym (passed_again named (views keys) s ss some (ap (λ y. is_at y (views keys)) of ∙ is)))

    pub same_keys : (list : List Standing) → views keys ≡ map place_of list → views keys' ≡ map place_of list
    same_keys list e = keys_after x keys keys' true more is ∙ e

  module _ (is : is_at (place_view x) (views keys) ≡ false) (list list' : List Standing) (pushed : list' ≡ list ++ s ∷ []) where
    pub more_rest : (ss : List Standing) → list' ++ first_places named (views keys') ss ≡ list ++ first_places named (views keys) (s ∷ ss)
    more_rest ss =
        ap (λ l. l ++ first_places named (views keys') ss) pushed
        ∙ (append_assoc list (s ∷ []) (first_places named (views keys') ss)
        ∙ (ap (λ ks. list ++ s ∷ first_places named ks ss) (keys_after x keys keys' false more is ∙ ap (λ y. views keys ++ y ∷ []) (sym of))
        ∙ ap (λ l. list ++ l) (sym (kept_first named (views keys) s ss some (ap (λ y. is_at y (views keys)) of ∙ is)))))

    pub more_keys : views keys ≡ map place_of list → views keys' ≡ map place_of list'
    more_keys e =
        keys_after x keys keys' false more is ∙ (ap (λ l. l ++ place_view x ∷ []) e ∙ (ap (λ y. map place_of list ++ y ∷ []) (sym of) ∙ (sym (map-append place_of list (s ∷ [])) ∙ ap (map place_of) (sym pushed))))

-- ---- looked up

abbrev passed : Place → List Standing → ℕ
passed x ss = position_or_len (same_place x) (map place_of ss)

of_first : (x : Place) (s : Standing) (ss : List Standing) (b : Bool) → same_place x (place_of s) ≡ b → first_at x (s ∷ ss) ≡ (if b then Some s else first_at x ss)
of_first x s ss b e = ap (λ z. if z then Some s else first_at x ss) e

of_index : (x : Place) (s : Standing) (ss : List Standing) (b : Bool) → same_place x (place_of s) ≡ b
    → slice_get (s ∷ ss) (position_or_len (same_place x) (map place_of (s ∷ ss))) ≡ slice_get (s ∷ ss) (cond (not b) (1 + passed x ss) 0)
of_index x s ss b e = ap (λ z. slice_get (s ∷ ss) (cond (not z) (1 + passed x ss) 0)) e

at_head : (x : Place) (s : Standing) (ss : List Standing) (b : Bool) → same_place x (place_of s) ≡ b → first_at x ss ≡ slice_get ss (position_or_len (same_place x) (map place_of ss))
    → first_at x (s ∷ ss) ≡ slice_get (s ∷ ss) (position_or_len (same_place x) (map place_of (s ∷ ss)))
at_head x s ss true e more = of_first x s ss true e ∙ sym (of_index x s ss true e)
at_head x s ss false e more =
    of_first x s ss false e
    ∙ (more ∙ (ap (slice_get (s ∷ ss)) (let next : suc (passed x ss) ≡ 1 + passed x ss = omega arith in next) ∙ sym (of_index x s ss false e)))

first_index : (x : Place) (ss : List Standing) → first_at x ss ≡ slice_get ss (position_or_len (same_place x) (map place_of ss))
first_index x [] = refl
first_index x (s ∷ ss) = at_head x s ss (same_place x (place_of s)) refl (first_index x ss)

by_test : (ss : List Standing) (n len : ℕ) (b : Bool) → nat_lt n len ≡ b → length ss ≡ len → option_and_then (λ i. slice_get ss i) (cond b (Some n) None) ≡ slice_get ss n
by_test ss n len true e same = refl
by_test ss n len false e same = sym (slice_get_past ss n (let past : len ≤ n = search (rules, e) in omega (arith, past, same)))

pub found_first : (x : Place) (ss : List Standing) (keys : List Place) → keys ≡ map place_of ss → option_and_then (λ i. slice_get ss i) (position (same_place x) keys) ≡ first_at x ss
found_first x ss keys is =
    ap (λ ks. option_and_then (λ i. slice_get ss i) (position (same_place x) ks)) is
    ∙ (by_test ss (position_or_len (same_place x) (map place_of ss)) (length (map place_of ss)) (nat_lt (position_or_len (same_place x) (map place_of ss)) (length (map place_of ss))) refl (sym (length-map ss place_of))
    ∙ sym (first_index x ss))

-- ---- by the code's keys and list

prefix_same : (x : Place) (ks : List code_place.Place) → position_or_len (λ k. is_yes (place_same x (place_view k))) ks ≡ position_or_len (same_place x) (views ks)
prefix_same x [] = refl
prefix_same x (k ∷ ks) =
    ap (λ b. cond (not b) (1 + position_or_len (λ q. is_yes (place_same x (place_view q))) ks) 0) (same_test x (place_view k))
    ∙ ap (λ n. cond (not (same_place x (place_view k))) (1 + n) 0) (prefix_same x ks)

pub same_position : (x : Place) (ks : List code_place.Place) → position (λ k. is_yes (place_same x (place_view k))) ks ≡ position (same_place x) (views ks)
same_position x ks =
    ap (λ n. cond (nat_lt n (length ks)) (Some n) None) (prefix_same x ks)
    ∙ ap (λ n. cond (nat_lt (position_or_len (same_place x) (views ks)) n) (Some (position_or_len (same_place x) (views ks))) None) (sym (length-map ks place_view))

pub seen_at : (xs : List code.Standing) (i : ℕ) (o : Option (Bor code.Standing)) → IsItemAt xs i o → option_map (λ s. standing_view s.now) o ≡ slice_get (map standing_view xs) i
seen_at xs i None at = sym (slice_get_past (map standing_view xs) i (let past : length xs ≤ i = at.3 in omega (arith, past, length-map xs standing_view)))
seen_at xs i (Some x) at =
    let within : i < length xs = at.3.0 in
    sym (slice_get-map standing_view xs i ∙ ap (option_map standing_view) (slice_get_read xs (length xs) i x.now refl within at.1))
