-- Entries that wait with their numbers, and what putting them into their slots makes of the ids.
use Rattle.std.specs.Prelude.{◌≡◌, ℕ, zero, suc, nat_eq, List, [], ◌∷◌, ◌++◌, map, refl, take, length, ◌+◌, slice_get, Bool, true, false, ◌||◌, is_some, Option, Some, None, cond}
use Rattle.std.specs.Global.{Box}
use Rattle.std.specs.Option.{option_to_list, unwrap_or}
use Rattle.std.specs.Str.{bytes_eq}
use Rattle.std.proofs.Common.{sym, ◌∙◌, ap, subst, arith, append_assoc, get_or, true≢false}
use Rattle.std.proofs.lemmas.Bool.{eq-eqb, eqb-true}
use Rattle.std.proofs.lemmas.List.{append-nil}
use Rattle.std.proofs.lemmas.Option.{slice_get_read, slice_get_within}
use Rattle.std.proofs.lemmas.Slice.Eq.{bytes_eq-Decides}
use Rattle.fluent_ast.specs.Tree.{Text, Pattern, Entry, message_entry, term_entry, junk_entry}
use Rattle.fluent_ast.specs.View.{attribute_view, entry_view, pattern_view, value_view}
use Rattle.fluent_ast.specs.declared.ast.Entry as code
use Rattle.fluent_ast.specs.declared.ast.Entry.TheVariants as entries
use Rattle.fluent_references.specs.Classes.{Grows}
use Rattle.fluent_references.specs.Links.{KeepsNumbers}
use Rattle.fluent_semantics.specs.Arguments.{Map, get, set, set_all}
use Rattle.fluent_semantics.specs.Bundle.{added, overridden, not_added, a_message, a_term}
use Rattle.fluent_semantics.specs.Bundle as m
use Rattle.fluent_semantics.specs.Errors.{message_kind, overriding, term_kind}
use Rattle.fluent_adding.specs.declared.parts.Parts.{Parts}
use Rattle.fluent_bundle_entries.specs.declared.ids.Ids.{Ids}
use Rattle.fluent_adding.specs.declared.ready.Ready.{Ready}
use Rattle.fluent_bundle_entries.specs.declared.slot.Kept.{Kept}
use Rattle.fluent_bundle_entries.specs.KeptLinks.{IsKeptOf, borrowed_value, patterns}
use Rattle.fluent_bundle_entries.specs.ErrorView.{kind_view}
use Rattle.fluent_bundle_entries.specs.IdNumbers.{numbers}
use Rattle.fluent_adding.specs.Inside.WaitingEntries.{AreMarked, AreReady, HasParts, IsJunk, IsReady, Waits, at_index, given, given_at, given_by, has_number, is_marked}
use Rattle.fluent_bundle_entries.specs.KeptLaws.{still_kept_of}
use Rattle.fluent_adding.proofs.OneId.{got_set, one_id}

pub overridden_given : (es : List Entry) (ids : Map (m.Entry Text)) → set_all (given es) ids ≡ overridden es ids
overridden_given [] ids = refl
overridden_given (message_entry id v a ∷ es) ids = overridden_given es (set id (a_message v a) ids)
overridden_given (term_entry id p a ∷ es) ids = overridden_given es (set id (a_term p a) ids)
overridden_given (junk_entry c ∷ es) ids = overridden_given es ids

pub given_append : (es fs : List Entry) → given (es ++ fs) ≡ given es ++ given fs
given_append [] fs = refl
given_append (message_entry id v a ∷ es) fs = ap (λ r. (id, a_message v a) ∷ r) (given_append es fs)
given_append (term_entry id p a ∷ es) fs = ap (λ r. (id, a_term p a) ∷ r) (given_append es fs)
given_append (junk_entry c ∷ es) fs = given_append es fs

none_at : {A : Type 0} (i : ℕ) (x : A) → slice_get [] i ≡ Some x → ⊥
none_at zero x there = cc
none_at (suc i) x there = cc

none_there : {A : Type 0} (i : ℕ) (o : Option A) → slice_get [] i ≡ o → o ≡ None
none_there i None there = refl
none_there i (Some x) there = absurd (none_at i x there)

-- no number is marked at first
pub none_marked : (n : ℕ) → is_marked [] n ≡ false
none_marked n = ap (λ o. unwrap_or o false) (none_there n (slice_get [] n) refl)

one_step : (es : List code.Entry) (i : ℕ) → map entry_view (take (suc i) es) ≡ map entry_view (take i es) ++ at_index es i
one_step [] zero = refl
one_step [] (suc i) = ap (λ o. map entry_view (option_to_list o)) (sym (none_there (suc i) (slice_get [] (suc i)) refl))
one_step (e ∷ es) zero = refl
one_step (e ∷ es) (suc i) = ap (λ r. entry_view e ∷ r) (one_step es i)

-- one entry more
pub one_more : (es : List code.Entry) (i : ℕ) → map entry_view (take (i + 1) es) ≡ map entry_view (take i es) ++ at_index es i
one_more es i = let next : i + 1 ≡ suc i = omega arith in ap (λ k. map entry_view (take k es)) next ∙ one_step es i

pub one_at : (es : List code.Entry) (i : ℕ) (e : code.Entry) → slice_get es i ≡ Some e → at_index es i ≡ entry_view e ∷ []
one_at es i e there = ap (λ o. map entry_view (option_to_list o)) there

pub some_is : {A : Type 0} (x y : A) → Some x ≡ Some y → x ≡ y
some_is x y h = ap (λ o. unwrap_or o x) h

-- the entry that is read at an index is the one that is there
pub same_at : (es : List code.Entry) (i : ℕ) (e x : code.Entry) → slice_get es i ≡ Some e → x ≡ get_or es i x → e ≡ x
same_at es i e x there is = some_is e x (sym there ∙ slice_get_read es (length es) i x refl (slice_get_within es i e there) is)

-- ---- maps

pub set_more : (xs ys : List (Text × m.Entry Text)) (ids : Map (m.Entry Text)) → set_all (xs ++ ys) ids ≡ set_all ys (set_all xs ids)
set_more [] ys ids = refl
set_more (x ∷ xs) ys ids = set_more xs ys (set x.0 x.1 ids)

-- one entry whose id is taken
pub added_taken : (e : code.Entry) (p : Parts) → HasParts e p → (ids : Map (m.Entry Text)) → is_some (get p.id.now ids) ≡ true → added (entry_view e ∷ []) ids ≡ ids
added_taken (entries.Message x) p parts ids taken = ap (λ b. cond b ids (set x.id.name.now (a_message (value_view x.value) (map attribute_view x.attributes.items)) ids)) (ap (λ t. is_some (get t ids)) parts.1 ∙ taken)
added_taken (entries.Term x) p parts ids taken = ap (λ b. cond b ids (set x.id.name.now (a_term (pattern_view x.value) (map attribute_view x.attributes.items)) ids)) (ap (λ t. is_some (get t ids)) parts.1 ∙ taken)
added_taken (entries.Junk c) p parts ids taken = absurd parts

pub told_taken : (e : code.Entry) (p : Parts) → HasParts e p → (ids : Map (m.Entry Text)) → is_some (get p.id.now ids) ≡ true → not_added (entry_view e ∷ []) ids ≡ overriding (kind_view p.kind) p.id.now ∷ []
told_taken (entries.Message x) p parts ids taken =
    ap (λ b. cond b (overriding message_kind x.id.name.now ∷ []) [] ++ []) (ap (λ t. is_some (get t ids)) parts.1 ∙ taken)
    ∙ (ap (λ k. overriding k x.id.name.now ∷ []) (sym parts.0) ∙ ap (λ t. overriding (kind_view p.kind) t ∷ []) parts.1)
told_taken (entries.Term x) p parts ids taken =
    ap (λ b. cond b (overriding term_kind x.id.name.now ∷ []) [] ++ []) (ap (λ t. is_some (get t ids)) parts.1 ∙ taken)
    ∙ (ap (λ k. overriding k x.id.name.now ∷ []) (sym parts.0) ∙ ap (λ t. overriding (kind_view p.kind) t ∷ []) parts.1)
told_taken (entries.Junk c) p parts ids taken = absurd parts

-- one whose id is free
pub added_free : (e : code.Entry) (p : Parts) → HasParts e p → (ids : Map (m.Entry Text)) → is_some (get p.id.now ids) ≡ false → set_all (given (entry_view e ∷ [])) ids ≡ added (entry_view e ∷ []) ids
added_free (entries.Message x) p parts ids free = sym (ap (λ b. cond b ids (set x.id.name.now (a_message (value_view x.value) (map attribute_view x.attributes.items)) ids)) (ap (λ t. is_some (get t ids)) parts.1 ∙ free))
added_free (entries.Term x) p parts ids free = sym (ap (λ b. cond b ids (set x.id.name.now (a_term (pattern_view x.value) (map attribute_view x.attributes.items)) ids)) (ap (λ t. is_some (get t ids)) parts.1 ∙ free))
added_free (entries.Junk c) p parts ids free = absurd parts

pub told_free : (e : code.Entry) (p : Parts) → HasParts e p → (ids : Map (m.Entry Text)) → is_some (get p.id.now ids) ≡ false → not_added (entry_view e ∷ []) ids ≡ []
told_free (entries.Message x) p parts ids free = ap (λ b. cond b (overriding message_kind x.id.name.now ∷ []) [] ++ []) (ap (λ t. is_some (get t ids)) parts.1 ∙ free)
told_free (entries.Term x) p parts ids free = ap (λ b. cond b (overriding term_kind x.id.name.now ∷ []) [] ++ []) (ap (λ t. is_some (get t ids)) parts.1 ∙ free)
told_free (entries.Junk c) p parts ids free = absurd parts

-- Junk has no id
pub added_junk : (e : code.Entry) → IsJunk e → (ids : Map (m.Entry Text)) → added (entry_view e ∷ []) ids ≡ ids
added_junk (entries.Message x) junk ids = absurd junk
added_junk (entries.Term x) junk ids = absurd junk
added_junk (entries.Junk c) junk ids = refl

pub told_junk : (e : code.Entry) → IsJunk e → (ids : Map (m.Entry Text)) → not_added (entry_view e ∷ []) ids ≡ []
told_junk (entries.Message x) junk ids = absurd junk
told_junk (entries.Term x) junk ids = absurd junk
told_junk (entries.Junk c) junk ids = refl

pub given_junk : (e : code.Entry) → IsJunk e → given (entry_view e ∷ []) ≡ []
given_junk (entries.Message x) junk = absurd junk
given_junk (entries.Term x) junk = absurd junk
given_junk (entries.Junk c) junk = refl

-- ---- entries that wait

module _ (es : List code.Entry) where
  -- one more waits
  pub given_more : (rs : List Ready) (r : Ready) → given_by es (rs ++ r ∷ []) ≡ given_by es rs ++ given_at es r.index
  given_more [] r = append-nil (given_at es r.index)
  given_more (x ∷ rs) r = ap (λ l. given_at es x.index ++ l) (given_more rs r) ∙ sym (append_assoc (given_at es x.index) (given_by es rs) (given_at es r.index))

module _ (n n' : Text → Option ℕ) (t t' : List Pattern) (kept : KeepsNumbers n n') (grows : Grows t t') where
  still_ready : (k : ℕ) (o : Option (Box Kept)) (e : code.Entry) → IsReady n t k o e → IsReady n' t' k o e
  still_ready k o (entries.Message x) h = (kept x.id.name.now k h.0, still_kept_of n n' t t' kept grows (value_view x.value) (patterns x.attributes.items) o h.1)
  still_ready k o (entries.Term x) h = (kept x.id.name.now k h.0, still_kept_of n n' t t' kept grows (Some (pattern_view x.value)) (patterns x.attributes.items) o h.1)
  still_ready k o (entries.Junk c) h = h

  still_waits : (es : List code.Entry) (r : Ready) (o : Option (Box Kept)) → Waits n t es r o → Waits n' t' es r o
  still_waits es r o h = (h.0, h.1, h.2, still_ready r.number o h.1 h.3)

  pub ready_still : (es : List code.Entry) (rs : List Ready) (ks : List (Box Kept)) → AreReady n t es rs ks → AreReady n' t' es rs ks
  ready_still es [] ks h = h
  ready_still es (r ∷ rs) ks h = (h.0, h.1, h.2, still_waits es r h.0 h.3, ready_still es rs h.1 h.4)

module _ (n : Text → Option ℕ) (t : List Pattern) (es : List code.Entry) (r : Ready) (o : Option (Box Kept)) (here : Waits n t es r o) where
  pub ready_more : (rs : List Ready) (ks : List (Box Kept)) → AreReady n t es rs ks → AreReady n t es (rs ++ r ∷ []) (ks ++ option_to_list o)
  ready_more [] ks h = (o, [], ap (λ l. l ++ option_to_list o) h ∙ sym (append-nil (option_to_list o)), here, refl)
  ready_more (x ∷ rs) ks h = (h.0, h.1 ++ option_to_list o, ap (λ l. l ++ option_to_list o) h.2 ∙ append_assoc (option_to_list h.0) h.1 (option_to_list o), h.3, ready_more rs h.1 h.4)

-- an entry of these parts has this number and what is kept of it
pub is_ready : (n : Text → Option ℕ) (t : List Pattern) (k : ℕ) (o : Option (Box Kept)) (e : code.Entry) (p : Parts) → HasParts e p → n p.id.now ≡ Some k → IsKeptOf n t (borrowed_value p.value) (patterns p.attributes.now) o → IsReady n t k o e
is_ready n t k o (entries.Message x) p parts at' kept =
    (ap n parts.1 ∙ at', subst (λ v. IsKeptOf n t v (patterns x.attributes.items) o) (sym parts.2) (subst (λ ps. IsKeptOf n t (borrowed_value p.value) ps o) (sym parts.3) kept))
is_ready n t k o (entries.Term x) p parts at' kept =
    (ap n parts.1 ∙ at', subst (λ v. IsKeptOf n t v (patterns x.attributes.items) o) (sym parts.2) (subst (λ ps. IsKeptOf n t (borrowed_value p.value) ps o) (sym parts.3) kept))
is_ready n t k o (entries.Junk c) p parts at' kept = parts

-- ---- whether an id is taken

moved : (a b c : Bool) → (a || (b || c)) ≡ ((b || a) || c)
moved true true c = refl
moved true false c = refl
moved false true c = refl
moved false false c = refl

module _ {F : Type 0} (m' : Ids F) (id : Text) (n : ℕ) (at_id : numbers m' id ≡ Some n) where
  -- an id is this one where its number is
  same_test : (q : Text) (k : ℕ) → numbers m' q ≡ Some k → bytes_eq q id ≡ nat_eq k n
  same_test q k at_q = by (nat_eq k n) refl
    where
      by : (b : Bool) → nat_eq k n ≡ b → bytes_eq q id ≡ b
      by true is = (bytes_eq-Decides q id).1 (one_id m' q id n (at_q ∙ ap Some (eqb-true k n is)) at_id)
      by false is = other (bytes_eq q id) refl
        where
          other : (b : Bool) → bytes_eq q id ≡ b → b ≡ false
          other false it = refl
          other true it =
              let e : Some k ≡ Some n = sym at_q ∙ (ap (numbers m') ((bytes_eq-Decides q id).0 it) ∙ at_id) in
              let same : nat_eq k n ≡ true = eq-eqb k n cc in
              absurd (true≢false (sym same ∙ is))

  one_set : (b : Bool) (x : Option (m.Entry Text)) (e : m.Entry Text) → is_some (cond b (Some e) x) ≡ (b || is_some x)
  one_set true x e = refl
  one_set false x e = refl

  set_here : (q : Text) (k : ℕ) (e : m.Entry Text) (ids : Map (m.Entry Text)) → numbers m' q ≡ Some k → is_some (get id (set q e ids)) ≡ (nat_eq k n || is_some (get id ids))
  set_here q k e ids at_q = ap is_some (got_set q id e ids) ∙ (one_set (bytes_eq q id) (get id ids) e ∙ ap (λ b. b || is_some (get id ids)) (same_test q k at_q))

  module _ (t : List Pattern) (es : List code.Entry) where
    one_waits : (r : Ready) (o : Option (Box Kept)) (e : code.Entry) → slice_get es r.index ≡ Some e → IsReady (numbers m') t r.number o e → (ids : Map (m.Entry Text))
        → is_some (get id (set_all (given_at es r.index) ids)) ≡ (nat_eq r.number n || is_some (get id ids))
    one_waits r o (entries.Message x) there h ids =
        ap (λ s. is_some (get id (set_all (given (map entry_view (option_to_list s))) ids))) there ∙ set_here x.id.name.now r.number _ ids h.0
    one_waits r o (entries.Term x) there h ids =
        ap (λ s. is_some (get id (set_all (given (map entry_view (option_to_list s))) ids))) there ∙ set_here x.id.name.now r.number _ ids h.0
    one_waits r o (entries.Junk c) there h ids = absurd h

    -- it is taken where it was, or where one that waits has its number
    is_taken : (rs : List Ready) (ks : List (Box Kept)) → AreReady (numbers m') t es rs ks → (ids : Map (m.Entry Text)) → is_some (get id (set_all (given_by es rs) ids)) ≡ (has_number rs n || is_some (get id ids))
    is_taken [] ks h ids = refl
    is_taken (r ∷ rs) ks h ids =
        ap (λ x. is_some (get id x)) (set_more (given_at es r.index) (given_by es rs) ids)
        ∙ (is_taken rs h.1 h.4 (set_all (given_at es r.index) ids)
        ∙ (ap (λ b. has_number rs n || b) (one_waits r h.0 h.3.1 h.3.2 h.3.3 ids)
        ∙ moved (has_number rs n) (nat_eq r.number n) (is_some (get id ids))))

    -- so its mark and what it names tell whether it is
    pub is_taken_by : (marks marks' : List Bool) (rs : List Ready) (ks : List (Box Kept)) → AreReady (numbers m') t es rs ks → AreMarked marks rs → marks' ≡ marks → (first now : Map (m.Entry Text)) → now ≡ first
        → (r b : Bool) → r ≡ (is_marked marks' n || is_some (get id now)) → r ≡ b → is_some (get id (set_all (given_by es rs) first)) ≡ b
    is_taken_by marks marks' rs ks h marked borrowed first now same r b test is =
        is_taken rs ks h first
        ∙ (ap (λ x. x || is_some (get id first)) (sym (marked n))
        ∙ (ap (λ x. is_marked marks n || is_some (get id x)) (sym same)
        ∙ (ap (λ ms. is_marked ms n || is_some (get id now)) (sym borrowed)
        ∙ (sym test ∙ is))))
