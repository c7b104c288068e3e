-- Ids of one number are one, and what setting an id changes.
use Rattle.std.proofs.Common.{◌≡◌, ℕ, ◌+◌, ◌<◌, List, [], ◌∷◌, ◌++◌, length, not, Bool, true, false, cond, true≢false, is_some, Option, None, Some, unwrap_or, refl, ap, sym, subst, ◌∙◌, arith, ltb-true}
use Rattle.std.proofs.lemmas.List.{append-nil}
use Rattle.std.proofs.lemmas.Slice.Eq.{bytes_eq-Decides}
use Rattle.std.specs.Cmp.{eq_by_cmp_equiv}
use Rattle.std.specs.Cmp.Lexicographic.{slice_cmp, nat_list_cmp_total, texts_ties}
use Rattle.std.specs.FinMap.Entries.{find-put}
use Rattle.std.specs.List.{position_or_len}
use Rattle.std.specs.Map.{keys_of}
use Rattle.std.specs.Ordering.{nat_cmp, eq_by_cmp}
use Rattle.std.specs.Str.{bytes_eq}
use Rattle.fluent_ast.specs.Tree.{Text}
use Rattle.fluent_references.specs.Slots.{number, slots}
use Rattle.fluent_semantics.specs.Arguments.{Map, get, set}
use Rattle.fluent_semantics.specs.Bundle.{add_free, error_if_taken}
use Rattle.fluent_semantics.specs.Bundle as meaning
use Rattle.fluent_semantics.specs.Errors.{Error, Kind, overriding}
use Rattle.fluent_bundle_entries.specs.IdNumbers.{numbers}
use Rattle.fluent_bundle_entries.specs.declared.ids.Ids.{Ids}

-- the index that an index from a list's prefix gives
placed : (b : Bool) (m n : ℕ) → cond b (Some m) None ≡ Some n → (b ≡ true) × (m ≡ n)
placed true m n h = (refl, ap (λ o. unwrap_or o m) h)
placed false m n h = absurd cc

same_index : {X : Type 0} (q id : Text) (ss : List (Text × X)) (n : ℕ) → position_or_len (bytes_eq q) (keys_of ss) ≡ n → position_or_len (bytes_eq id) (keys_of ss) ≡ n → n < length (keys_of ss) → q ≡ id
same_index q id [] n a b within = absurd (omega (arith, within))
same_index q id (s ∷ ss) n a b within = by (bytes_eq q s.0) (bytes_eq id s.0) refl refl (same_index q id ss)
  where
    first : (t : Text) (r : Bool) → bytes_eq t s.0 ≡ r → position_or_len (bytes_eq t) (keys_of (s ∷ ss)) ≡ cond (not r) (1 + position_or_len (bytes_eq t) (keys_of ss)) 0
    first t r is = ap (λ b. cond (not b) (1 + position_or_len (bytes_eq t) (keys_of ss)) 0) is

    by : (x y : Bool) → bytes_eq q s.0 ≡ x → bytes_eq id s.0 ≡ y
        → ((k : ℕ) → position_or_len (bytes_eq q) (keys_of ss) ≡ k → position_or_len (bytes_eq id) (keys_of ss) ≡ k → k < length (keys_of ss) → q ≡ id) → q ≡ id
    by true true x y later = (bytes_eq-Decides q s.0).0 x ∙ sym ((bytes_eq-Decides id s.0).0 y)
    by true false x y later = let none : 0 ≡ n = sym (first q true x) ∙ a in let more : 1 + position_or_len (bytes_eq id) (keys_of ss) ≡ n = sym (first id false y) ∙ b in absurd (omega (arith, none, more))
    by false true x y later = let none : 0 ≡ n = sym (first id true y) ∙ b in let more : 1 + position_or_len (bytes_eq q) (keys_of ss) ≡ n = sym (first q false x) ∙ a in absurd (omega (arith, none, more))
    by false false x y later =
        let one : 1 + position_or_len (bytes_eq q) (keys_of ss) ≡ n = sym (first q false x) ∙ a in
        let other : 1 + position_or_len (bytes_eq id) (keys_of ss) ≡ n = sym (first id false y) ∙ b in
        later (position_or_len (bytes_eq q) (keys_of ss)) refl (omega (arith, one, other)) (omega (arith, one, within))

-- ids of one number are one
same_id : {X : Type 0} (ss : List (Text × Option X)) (q id : Text) (n : ℕ) → number ss q ≡ Some n → number ss id ≡ Some n → q ≡ id
same_id ss q id n h k =
    let at = placed _ (position_or_len (bytes_eq q) (keys_of ss)) n h in
    let at' = placed _ (position_or_len (bytes_eq id) (keys_of ss)) n k in
    same_index q id ss n at.1 at'.1 (subst (λ m. m < length (keys_of ss)) at.1 (ltb-true _ _ at.0))

pub one_id : {F : Type 0} (m : Ids F) (q id : Text) (n : ℕ) → numbers m q ≡ Some n → numbers m id ≡ Some n → q ≡ id
unfolding numbers
one_id m q id n h k = same_id (slots m.known) q id n h k

pub got_set : (id q : Text) (e : meaning.Entry Text) (ids : Map (meaning.Entry Text)) → get q (set id e ids) ≡ cond (bytes_eq id q) (Some e) (get q ids)
got_set id q e ids =
    let tied : eq_by_cmp (slice_cmp nat_cmp) q id ≡ bytes_eq id q = sym (texts_ties id q ∙ (eq_by_cmp_equiv nat_list_cmp_total).symm id q) in
    find-put (slice_cmp nat_cmp) nat_list_cmp_total q id e ids ∙ ap (λ b. cond b (Some e) (get q ids)) tied

-- ---- free ids

pub is_free : {A : Type 0} (o : Option A) → is_some o ≡ false → o ≡ None
is_free None h = refl
is_free (Some x) h = absurd (true≢false h)

pub added_free : (id : Text) (e : meaning.Entry Text) (old mid new : Map (meaning.Entry Text)) → mid ≡ old → is_some (get id mid) ≡ false → new ≡ set id e mid → new ≡ add_free id e old
added_free id e old mid new same free step = step ∙ (sym (ap (λ b. cond b mid (set id e mid)) free) ∙ ap (add_free id e) same)

pub not_added_free : (id : Text) (e : meaning.Entry Text) (old mid : Map (meaning.Entry Text)) → mid ≡ old → is_some (get id mid) ≡ true → mid ≡ add_free id e old
not_added_free id e old mid same taken = sym (ap (λ b. cond b mid (set id e mid)) taken) ∙ ap (add_free id e) same

pub told_free : (kind : Kind) (id : Text) (ids : Map (meaning.Entry Text)) (so : List Error) → is_some (get id ids) ≡ false → so ≡ so ++ error_if_taken kind id ids
told_free kind id ids so free = sym (ap (λ b. so ++ cond b (overriding kind id ∷ []) []) free ∙ append-nil so)

pub told_taken : (kind : Kind) (id : Text) (ids : Map (meaning.Entry Text)) (so more : List Error) → is_some (get id ids) ≡ true → more ≡ so ++ overriding kind id ∷ [] → more ≡ so ++ error_if_taken kind id ids
told_taken kind id ids so more taken told = told ∙ sym (ap (λ b. so ++ cond b (overriding kind id ∷ []) []) taken)
