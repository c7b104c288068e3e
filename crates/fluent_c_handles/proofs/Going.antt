-- Entries are gone over, one after the other.
use Rattle.std.proofs.Common.{◌≡◌, ℕ, zero, suc, ◌+◌, ◌<◌, ◌≤◌, ◌||◌, Bool, true, false, cond, not, List, [], ◌∷◌, ◌++◌, length, get_or, map, take, is_some, Option, Some, None, refl, sym, ap, subst, ◌∙◌, arith}
use Rattle.std.specs.Borrow.{Bor}
use Rattle.std.specs.Cmp.{eq_by_cmp_equiv}
use Rattle.std.specs.Cmp.Lexicographic.{slice_cmp, nat_list_cmp_total, texts_ties}
use Rattle.std.specs.FinMap.Entries.{find-put}
use Rattle.std.specs.List.{list_any}
use Rattle.std.specs.Option.{option_map}
use Rattle.std.specs.Ordering.{nat_cmp, eq_by_cmp}
use Rattle.std.specs.Str.{bytes_eq}
use Rattle.std.proofs.lemmas.List.{append_assoc, append-nil, map-append, take_more, take_all}
use Rattle.std.proofs.lemmas.Slice.Eq.{bytes_eq-Decides}
use Rattle.std.proofs.Math.Bool.{not-not}
use Rattle.fluent_ast.specs.Tree.{Text, Pattern, Attributes, Entry, message_entry, term_entry, junk_entry}
use Rattle.fluent_ast.specs.View.{entry_view}
use Rattle.fluent_ast.specs.declared.ast.Entry as code
use Rattle.fluent_semantics.specs.Arguments.{Map, get, set}
use Rattle.fluent_semantics.specs.Bundle as m
use Rattle.fluent_semantics.specs.Bundle.{Function, a_message, a_term, add_free, added, error_if_taken, not_added}
use Rattle.fluent_semantics.specs.Errors.{Error, Kind, overriding, message_kind, term_kind}
use Rattle.fluent_bundle_entries.specs.EntryView.{ids}
use Rattle.fluent_bundle_entries.specs.declared.ids.Ids.{Ids}
use Rattle.fluent_c_handles.specs.declared.left.Left.{Left}
use Rattle.fluent_c_handles.specs.declared.left.Seen.{Seen}
use Rattle.fluent_c_handles.specs.Calls.Adding.{placed}
use Rattle.fluent_c_handles.specs.Inside.Seen.{AreKnown, AreLeft, Earlier, GoesOver, GoesOverId, IsSeen, left_from, left_view}

abbrev Named : Type 0
Named = Map (m.Entry Text)

-- ---- which ids are known

or_false : (b : Bool) → (b || false) ≡ b
or_false true = refl
or_false false = refl

or_true : (b : Bool) → (b || true) ≡ true
or_true true = refl
or_true false = refl

pub known_none : (first : Named) → AreKnown first [] first
known_none first q = sym (or_false (is_some (get q.now first)))

pub some_mapped : {X Y : Type 0} (f : X → Y) (o : Option X) (p : Option Y) → option_map f o ≡ p → is_some o ≡ is_some p
some_mapped f None p e = ap is_some e
some_mapped f (Some x) p e = ap is_some e

got_set : (id q : Text) (x : m.Entry Text) (now : Named) → get q (set id x now) ≡ cond (bytes_eq id q) (Some x) (get q now)
got_set id q x now =
    let tied : eq_by_cmp (slice_cmp nat_cmp) q id ≡ bytes_eq id q = sym (texts_ties id q ∙ (eq_by_cmp_equiv nat_list_cmp_total).symm id q) in
    find-put (slice_cmp nat_cmp) nat_list_cmp_total q id x now ∙ ap (λ b. cond b (Some x) (get q now)) tied

-- an id that is taken is left alone
alone : (id : Text) (x : m.Entry Text) (now : Named) → is_some (get id now) ≡ true → add_free id x now ≡ now
alone id x now t = ap (λ b. cond b now (set id x now)) t

pub is_named : (first now : Named) (seen : Earlier) (id : Bor Text) → is_some (get id.now first) ≡ true → AreKnown first seen now
    → (true ≡ is_some (get id.now now)) × ((x : m.Entry Text) → AreKnown first seen (add_free id.now x now))
is_named first now seen id named h =
    let t : is_some (get id.now now) ≡ true = h id ∙ ap (λ b. b || list_any (λ k. bytes_eq id.now k.now) seen) named in
    (sym t, λ x. subst (AreKnown first seen) (sym (alone id.now x now t)) h)

one_more_seen : (e f a s : Bool) → s ≡ (f || a) → (e ≡ true → s ≡ true) → s ≡ (f || cond e true a)
one_more_seen true f a s h t = t refl ∙ sym (or_true f)
one_more_seen false f a s h t = h

one_more_set : (e f a : Bool) (x : m.Entry Text) (o : Option (m.Entry Text)) → is_some o ≡ (f || a) → is_some (cond e (Some x) o) ≡ (f || cond e true a)
one_more_set true f a x o h = sym (or_true f)
one_more_set false f a x o h = h

pub is_unnamed : (first now : Named) (old new : Earlier) (id : Bor Text) (is_new : Bool) → is_some (get id.now first) ≡ false
    → is_new ≡ not (list_any (λ k. bytes_eq id.now k.now) old) → ((q : Bor Text) → list_any (λ k. bytes_eq q.now k.now) new ≡ cond (bytes_eq id.now q.now) true (list_any (λ k. bytes_eq q.now k.now) old)) → AreKnown first old now
    → (not is_new ≡ is_some (get id.now now)) × ((x : m.Entry Text) → AreKnown first new (add_free id.now x now))
is_unnamed first now old new id is_new unnamed fresh updates h =
    let seen : Bor Text → Bool = λ q. list_any (λ k. bytes_eq q.now k.now) old in
    let taken : is_some (get id.now now) ≡ seen id = h id ∙ ap (λ b. b || seen id) unnamed in
    (ap not fresh ∙ (not-not (seen id) ∙ sym taken), by (is_some (get id.now now)) refl)
  where
    by : (b : Bool) → is_some (get id.now now) ≡ b → (x : m.Entry Text) → AreKnown first new (add_free id.now x now)
    by true t x = subst (AreKnown first new) (sym (alone id.now x now t)) (λ q.
        one_more_seen (bytes_eq id.now q.now) (is_some (get q.now first)) (list_any (λ k. bytes_eq q.now k.now) old) (is_some (get q.now now)) (h q) (λ e. subst (λ u. is_some (get u now) ≡ true) ((bytes_eq-Decides id.now q.now).0 e) t)
        ∙ ap (λ b. is_some (get q.now first) || b) (sym (updates q)))
    by false t x = subst (AreKnown first new) (sym (ap (λ b. cond b now (set id.now x now)) t)) (λ q.
        ap is_some (got_set id.now q.now x now)
        ∙ (one_more_set (bytes_eq id.now q.now) (is_some (get q.now first)) (list_any (λ k. bytes_eq q.now k.now) old) x (get q.now now) (h q)
        ∙ ap (λ b. is_some (get q.now first) || b) (sym (updates q))))

-- ---- what is left

pub left_taken : (k : ℕ) (kind : Kind) (id : Text) (now : Named) (old new : List Left) (l : Left) → is_some (get id now) ≡ true → new ≡ old ++ l ∷ [] → left_view l ≡ (k, overriding kind id)
    → map left_view new ≡ map left_view old ++ placed k (error_if_taken kind id now)
left_taken k kind id now old new l taken pushed is =
    ap (map left_view) pushed ∙ (map-append left_view old (l ∷ [])
    ∙ (ap (λ v. map left_view old ++ v ∷ []) is
    ∙ ap (λ b. map left_view old ++ placed k (cond b (overriding kind id ∷ []) [])) (sym taken)))

pub left_free : (k : ℕ) (kind : Kind) (id : Text) (now : Named) (old : List Left) → is_some (get id now) ≡ false
    → map left_view old ≡ map left_view old ++ placed k (error_if_taken kind id now)
left_free k kind id now old free =
    sym (append-nil (map left_view old)) ∙ ap (λ b. map left_view old ++ placed k (cond b (overriding kind id ∷ []) [])) (sym free)

module _ {F : Type 0} (known : Ids F) (k : ℕ) where
  alone_left : (es : List Error) → placed k es ≡ placed k (es ++ []) ++ []
  alone_left es = sym (append-nil (placed k (es ++ [])) ∙ ap (placed k) (append-nil es))

  pub goes_message : (id : Text) (v : Option Pattern) (as' : Attributes) (a b : Seen) → GoesOverId known k message_kind id a b → GoesOver known k (message_entry id v as' ∷ []) a b
  goes_message id v as' a b go = λ answer now h.
      let went = go answer now h in
      (went.0 (a_message v as'), went.1 ∙ ap (λ l. map left_view a.left.items ++ l) (alone_left (error_if_taken message_kind id now)))

  pub goes_term : (id : Text) (p : Pattern) (as' : Attributes) (a b : Seen) → GoesOverId known k term_kind id a b → GoesOver known k (term_entry id p as' ∷ []) a b
  goes_term id p as' a b go = λ answer now h.
      let went = go answer now h in
      (went.0 (a_term p as'), went.1 ∙ ap (λ l. map left_view a.left.items ++ l) (alone_left (error_if_taken term_kind id now)))

  pub goes_junk : (source : Text) (a : Seen) → GoesOver known k (junk_entry source ∷ []) a a
  goes_junk source a = λ answer now h. (h, sym (append-nil (map left_view a.left.items)))

-- ---- one more entry

module _ {C : Type 0} where
  added_snoc : (es : List Entry) (e : Entry) (now : Map (m.Entry C)) → added (es ++ e ∷ []) now ≡ added (e ∷ []) (added es now)
  added_snoc [] e now = refl
  added_snoc (message_entry id v as' ∷ es) e now = added_snoc es e (add_free id (a_message v as') now)
  added_snoc (term_entry id p as' ∷ es) e now = added_snoc es e (add_free id (a_term p as') now)
  added_snoc (junk_entry source ∷ es) e now = added_snoc es e now

  added_then : (e : Entry) (es : List Entry) (now : Map (m.Entry C)) → added es (added (e ∷ []) now) ≡ added (e ∷ es) now
  added_then (message_entry id v as') es now = refl
  added_then (term_entry id p as') es now = refl
  added_then (junk_entry source) es now = refl

  left_snoc : (k j : ℕ) (es : List Entry) (e : Entry) (now : Map (m.Entry C)) → j ≡ k + length es → left_from k (es ++ e ∷ []) now ≡ left_from k es now ++ left_from j (e ∷ []) (added es now)
  left_snoc k j [] e now is = let same : k ≡ j = omega (arith, is) in ap (λ n. left_from n (e ∷ []) now) same
  left_snoc k j (x ∷ xs) e now is =
      let here = placed k (not_added (x ∷ []) now) in
      let on = added (x ∷ []) now in
      ap (λ l. here ++ l) (left_snoc (suc k) j xs e on (omega (arith, is)))
      ∙ (sym (append_assoc here (left_from (suc k) xs on) (left_from j (e ∷ []) (added xs on)))
      ∙ ap (λ a. (here ++ left_from (suc k) xs on) ++ left_from j (e ∷ []) a) (added_then x xs now))

taken_length : {A B : Type 0} (f : A → B) (xs : List A) (k : ℕ) → k < length xs → length (map f (take k xs)) ≡ k
taken_length f [] k lt = absurd (omega arith)
taken_length f (x ∷ xs) zero lt = refl
taken_length f (x ∷ xs) (suc k) lt = ap suc (taken_length f xs k (omega arith))

one_more : (xs : List code.Entry) (k : ℕ) (x : code.Entry) → k < length xs → x ≡ get_or xs k x → map entry_view (take (k + 1) xs) ≡ map entry_view (take k xs) ++ entry_view x ∷ []
one_more xs k x lt is = ap (map entry_view) (take_more xs k x lt ∙ ap (λ u. take k xs ++ u ∷ []) (sym is)) ∙ map-append entry_view (take k xs) (x ∷ [])

module _ {F : Type 0} (known : Ids F) where
  pub seen_none : (s : Seen) → s.earlier.keys ≡ [] → s.left.items ≡ [] → IsSeen known [] s
  seen_none s no_ids no_left = λ answer.
      let first = ids answer known in
      (subst (λ e. AreKnown first e first) (sym no_ids) (known_none first), ap (map left_view) no_left)

  pub seen_more : (xs : List code.Entry) (k : ℕ) (x : code.Entry) (a b : Seen) → k < length xs → x ≡ get_or xs k x → IsSeen known (map entry_view (take k xs)) a → GoesOver known k (entry_view x ∷ []) a b
      → IsSeen known (map entry_view (take (k + 1) xs)) b
  seen_more xs k x a b lt is so_far this = λ answer.
      let first = ids answer known in
      let before = map entry_view (take k xs) in
      let had = so_far answer in
      let went = this answer (added before first) had.0 in
      let at : k ≡ 0 + length before = omega (arith, taken_length entry_view xs k lt) in
      subst (λ es. AreKnown first b.earlier.keys (added es first) × (map left_view b.left.items ≡ left_from 0 es first)) (sym (one_more xs k x lt is)) (
        subst (AreKnown first b.earlier.keys) (sym (added_snoc before (entry_view x) first)) went.0,
        went.1 ∙ (ap (λ l. l ++ left_from k (entry_view x ∷ []) (added before first)) had.1 ∙ sym (left_snoc 0 k before (entry_view x) first at)),
      )

  pub all_left : (xs : List code.Entry) (k : ℕ) (s : Seen) → length xs ≤ k → IsSeen known (map entry_view (take k xs)) s → AreLeft known (map entry_view xs) s.left.items
  all_left xs k s le seen = λ answer. (seen answer).1 ∙ ap (λ ys. left_from 0 (map entry_view ys) (ids answer known)) (take_all k xs le)
