-- Which ids are gathered.
use Rattle.std.proofs.Common.{◌≡◌, List, [], ◌∷◌, Bool, true, false, Option, Some, None, is_some, cond, if◌then◌else◌, ◌||◌, ◌&&◌, map, refl, sym, ap, subst, ◌∙◌, T}
use Rattle.std.specs.List.{list_any, filter}
use Rattle.std.specs.Ordering.{nat_cmp, eq_by_cmp, is_lt}
use Rattle.std.specs.Cmp.Lexicographic.{slice_cmp, nat_list_cmp_total, bytes_decides}
use Rattle.std.specs.FinMap.{slice_cmp-IsAntisymmetric, nat_cmp-IsAntisymmetric}
use Rattle.std.specs.FinMap.Entries.{find-put, is_sorted-put, is_sorted, below_all, where_key, is_sorted-where_key, find-where_key, same_entries}
use Rattle.fluent_ast.specs.Tree.{Text, Entry, message_entry, term_entry, junk_entry}
use Rattle.fluent_semantics.specs.Arguments.{Map, get, set}
use Rattle.fluent_semantics.specs.Bundle.{Bundle}
use Rattle.fluent_semantics.specs.Number.{is_text}
use Rattle.fluent_bundle_entries.specs.EntryView.{message_content}
use Rattle.fluent_c_handles.specs.Inside.Resources.{AllFrom, is_among, is_message_of}
use Rattle.fluent_c_handles.specs.Calls.Finding.{message_ids, names_message}
use Rattle.fluent_c_handles.specs.Inside.Gathered.{Ids, with_entries, with_id, with_resources}
use Rattle.fluent_c_handles.specs.Facts.Added.{key_is_text, text_is_key}

abbrev has : {A : Type 0} → Text → Map A → Bool
has q m = is_some (get q m)

same_text : (s t : Text) → is_text s t ≡ true → s ≡ t
same_text s t h = (bytes_decides s t).0 h

right_true : (a : Bool) → (a || true) ≡ true
right_true true = refl
right_true false = refl

right_false : (a : Bool) → (a || false) ≡ a
right_false true = refl
right_false false = refl

false_of : (b : Bool) → (b ≡ true → ⊥) → b ≡ false
false_of true h = absurd (h refl)
false_of false h = refl

module _ (pass : Text → Bool) where
  set_has : (q id : Text) (ids : Ids) → has q (set id tt ids) ≡ (has q ids || is_text id q)
  set_has q id ids = ap is_some (find-put (slice_cmp nat_cmp) nat_list_cmp_total q id tt ids) ∙ by (eq_by_cmp (slice_cmp nat_cmp) q id) refl
    where
      by : (b : Bool) → eq_by_cmp (slice_cmp nat_cmp) q id ≡ b → is_some (cond b (Some tt) (get q ids)) ≡ (has q ids || is_text id q)
      by true k = sym (ap (λ x. has q ids || x) (key_is_text q id k) ∙ right_true (has q ids))
      by false k = sym (ap (λ x. has q ids || x) (false_of (is_text id q) (λ j. absurd (let other : eq_by_cmp (slice_cmp nat_cmp) q id ≡ true = text_is_key q id j in cc))) ∙ right_false (has q ids))

  with_id_has : (q id : Text) (ids : Ids) → has q (with_id pass id ids) ≡ (has q ids || (is_text id q && pass q))
  with_id_has q id ids = by (is_text id q) refl (pass id) refl
    where
      by : (t : Bool) → is_text id q ≡ t → (b : Bool) → pass id ≡ b → has q (if b then set id tt ids else ids) ≡ (has q ids || (t && pass q))
      by true j true k = set_has q id ids ∙ ap (λ x. has q ids || x) (j ∙ sym (ap pass (sym (same_text id q j)) ∙ k))
      by true j false k = sym (ap (λ x. has q ids || x) (ap pass (sym (same_text id q j)) ∙ k) ∙ right_false (has q ids))
      by false j true k = set_has q id ids ∙ ap (λ x. has q ids || x) j
      by false j false k = sym (right_false (has q ids))

  joins : (a t l k : Bool) → ((a || (t && k)) || (l && k)) ≡ (a || ((t || l) && k))
  joins true t l k = refl
  joins false true l true = refl
  joins false true true false = refl
  joins false true false false = refl
  joins false false l k = refl

  with_entries_has : (q : Text) (es : List Entry) (ids : Ids) → has q (with_entries pass es ids) ≡ (has q ids || (list_any (is_message_of q) es && pass q))
  with_entries_has q [] ids = sym (right_false (has q ids))
  with_entries_has q (message_entry id v as' ∷ es) ids = with_entries_has q es (with_id pass id ids) ∙ ap (λ x. x || (list_any (is_message_of q) es && pass q)) (with_id_has q id ids) ∙ joins (has q ids) (is_text id q) _ (pass q)
  with_entries_has q (term_entry id p as' ∷ es) ids = with_entries_has q es ids
  with_entries_has q (junk_entry source ∷ es) ids = with_entries_has q es ids

  with_resources_has : (q : Text) (resources : List (List Entry)) (ids : Ids) → has q (with_resources pass resources ids) ≡ (has q ids || (is_among q resources && pass q))
  with_resources_has q [] ids = sym (right_false (has q ids))
  with_resources_has q (es ∷ resources) ids = with_resources_has q resources (with_entries pass es ids) ∙ ap (λ x. x || (is_among q resources && pass q)) (with_entries_has q es ids) ∙ joins (has q ids) _ _ (pass q)

  -- ---- their order

  abbrev rises : {A : Type 0} → Map A → Type 0
  rises m = T (is_sorted (slice_cmp nat_cmp) m)

  with_id_rises : (id : Text) (ids : Ids) → rises ids → rises (with_id pass id ids)
  with_id_rises id ids h = by (pass id)
    where
      by : (b : Bool) → rises (if b then set id tt ids else ids)
      by true = is_sorted-put (slice_cmp nat_cmp) nat_list_cmp_total id tt ids h
      by false = h

  with_entries_rises : (es : List Entry) (ids : Ids) → rises ids → rises (with_entries pass es ids)
  with_entries_rises [] ids h = h
  with_entries_rises (message_entry id v as' ∷ es) ids h = with_entries_rises es _ (with_id_rises id ids h)
  with_entries_rises (term_entry id p as' ∷ es) ids h = with_entries_rises es ids h
  with_entries_rises (junk_entry source ∷ es) ids h = with_entries_rises es ids h

  with_resources_rises : (resources : List (List Entry)) (ids : Ids) → rises ids → rises (with_resources pass resources ids)
  with_resources_rises [] ids h = h
  with_resources_rises (es ∷ resources) ids h = with_resources_rises resources _ (with_entries_rises es ids h)

-- ---- the keys of a map

abbrev keyed : {A : Type 0} → Map A → Ids
keyed m = map (λ e. (e.0, tt)) m

module _ {A : Type 0} where
  keyed_below : (k : Text) (m : Map A) → below_all (slice_cmp nat_cmp) k (keyed m) ≡ below_all (slice_cmp nat_cmp) k m
  keyed_below k [] = refl
  keyed_below k (e ∷ es) = ap (λ b. is_lt (slice_cmp nat_cmp k e.0) && b) (keyed_below k es)

  keyed_rises : (m : Map A) → is_sorted (slice_cmp nat_cmp) (keyed m) ≡ is_sorted (slice_cmp nat_cmp) m
  keyed_rises [] = refl
  keyed_rises (e ∷ es) = λ i. keyed_below e.0 es i && keyed_rises es i

  keyed_has : (q : Text) (m : Map A) → has q (keyed m) ≡ has q m
  keyed_has q [] = refl
  keyed_has q (e ∷ es) = by (eq_by_cmp (slice_cmp nat_cmp) q e.0) (keyed_has q es)
    where
      by : (b : Bool) → has q (keyed es) ≡ has q es → is_some (cond b (Some tt) (get q (keyed es))) ≡ is_some (cond b (Some e.1) (get q es))
      by true rest = refl
      by false rest = rest

  keyed_keys : (p : Text → Bool) (m : Map A) → map (λ e. e.0) (keyed (where_key (slice_cmp nat_cmp) p m)) ≡ filter p (map (λ e. e.0) m)
  keyed_keys p [] = refl
  keyed_keys p (e ∷ es) = by (p e.0) (keyed_keys p es)
    where
      by : (b : Bool) → map (λ x. x.0) (keyed (where_key (slice_cmp nat_cmp) p es)) ≡ filter p (map (λ x. x.0) es) → map (λ x. x.0) (keyed (cond b (e ∷ where_key (slice_cmp nat_cmp) p es) (where_key (slice_cmp nat_cmp) p es))) ≡ cond b (e.0 ∷ filter p (map (λ x. x.0) es)) (filter p (map (λ x. x.0) es))
      by true rest = ap (λ xs. e.0 ∷ xs) rest
      by false rest = rest

-- what is there or not says all of a map of nothing
same_unit : (x y : Option (Unit {0})) → is_some x ≡ is_some y → x ≡ y
same_unit None None h = refl
same_unit None (Some y) h = absurd cc
same_unit (Some x) None h = absurd cc
same_unit (Some x) (Some y) h = refl

-- ---- all that a bundle has

module _ (b : Bundle Text) where
  some_at : (q : Text) → names_message b q ≡ true → has q b.ids ≡ true
  some_at q h = by (get q b.ids) refl
    where
      by : (x : _) → get q b.ids ≡ x → is_some x ≡ true
      by (Some e) k = refl
      by None k = absurd (let none : names_message b q ≡ false = ap (λ x. is_some (message_content x)) k in cc)

  own_has : (q : Text) → has q (where_key (slice_cmp nat_cmp) (names_message b) b.ids) ≡ names_message b q
  own_has q = ap is_some (find-where_key (slice_cmp nat_cmp) (names_message b) q (λ x t. ap (names_message b) (sym (slice_cmp-IsAntisymmetric nat_cmp-IsAntisymmetric q x t))) b.ids) ∙ by (names_message b q) refl
    where
      by : (t : Bool) → names_message b q ≡ t → is_some (cond t (get q b.ids) None) ≡ t
      by true h = some_at q h
      by false h = refl

  gathered_has : (resources : List (List Entry)) → AllFrom resources b.ids → (q : Text) → has q (with_resources (names_message b) resources []) ≡ names_message b q
  gathered_has resources from q = with_resources_has (names_message b) q resources [] ∙ by (names_message b q) refl
    where
      by : (t : Bool) → names_message b q ≡ t → (is_among q resources && t) ≡ t
      by true h = ap (λ x. x && true) (from q h)
      by false h = and_false (is_among q resources)
        where
          and_false : (x : Bool) → (x && false) ≡ false
          and_false true = refl
          and_false false = refl

  -- The ids that were gathered are all that name a message, in order.
  pub all_gathered : T (is_sorted (slice_cmp nat_cmp) b.ids) → (resources : List (List Entry)) → AllFrom resources b.ids → map (λ e. e.0) (with_resources (names_message b) resources []) ≡ message_ids b
  all_gathered sorted resources from = ap (map (λ e. e.0)) same ∙ keyed_keys (names_message b) b.ids
    where
      same : with_resources (names_message b) resources [] ≡ keyed (where_key (slice_cmp nat_cmp) (names_message b) b.ids)
      same = same_entries (slice_cmp nat_cmp) nat_list_cmp_total (slice_cmp-IsAntisymmetric nat_cmp-IsAntisymmetric)
          (with_resources (names_message b) resources []) (keyed (where_key (slice_cmp nat_cmp) (names_message b) b.ids))
          (with_resources_rises (names_message b) resources [] tt)
          (subst T (sym (keyed_rises (where_key (slice_cmp nat_cmp) (names_message b) b.ids))) (is_sorted-where_key (slice_cmp nat_cmp) (names_message b) b.ids sorted))
          (λ q. same_unit _ _ (gathered_has resources from q ∙ sym (keyed_has q (where_key (slice_cmp nat_cmp) (names_message b) b.ids) ∙ own_has q)))
