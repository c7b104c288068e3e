-- Adding entry by entry.
use Rattle.std.specs.Prelude.{◌≡◌, ℕ, List, [], ◌∷◌, ◌++◌, map, refl, take, drop, length, ◌<◌, ◌+◌}
use Rattle.std.proofs.Common.{sym, ◌∙◌, ap, get_or, append_assoc}
use Rattle.std.proofs.lemmas.List.{drop_more, map_more, append-nil}
use Rattle.fluent_ast.specs.Tree.{Text, Entry, message_entry, term_entry, junk_entry}
use Rattle.fluent_ast.specs.View.{entry_view}
use Rattle.fluent_ast.specs.declared.ast.Entry as code
use Rattle.fluent_semantics.specs.Arguments.{Map, set}
use Rattle.fluent_semantics.specs.Bundle.{added, overridden, not_added, add_free, error_if_taken, a_message, a_term}
use Rattle.fluent_semantics.specs.Bundle as m
use Rattle.fluent_semantics.specs.Errors.{Error, Kind, message_kind, term_kind}

module _ {C : Type 0} where
  pub added_append : (es fs : List Entry) (ids : Map (m.Entry C)) → added (es ++ fs) ids ≡ added fs (added es ids)
  added_append [] fs ids = refl
  added_append (message_entry id v a ∷ es) fs ids = added_append es fs (add_free id (a_message v a) ids)
  added_append (term_entry id p a ∷ es) fs ids = added_append es fs (add_free id (a_term p a) ids)
  added_append (junk_entry c ∷ es) fs ids = added_append es fs ids

  pub overridden_append : (es fs : List Entry) (ids : Map (m.Entry C)) → overridden (es ++ fs) ids ≡ overridden fs (overridden es ids)
  overridden_append [] fs ids = refl
  overridden_append (message_entry id v a ∷ es) fs ids = overridden_append es fs (set id (a_message v a) ids)
  overridden_append (term_entry id p a ∷ es) fs ids = overridden_append es fs (set id (a_term p a) ids)
  overridden_append (junk_entry c ∷ es) fs ids = overridden_append es fs ids

  pub not_added_append : (es fs : List Entry) (ids : Map (m.Entry C)) → not_added (es ++ fs) ids ≡ not_added es ids ++ not_added fs (added es ids)
  not_added_append [] fs ids = refl
  not_added_append (message_entry id v a ∷ es) fs ids =
      let next : Map (m.Entry C) = add_free id (a_message v a) ids in
      ap (λ r. error_if_taken message_kind id ids ++ r) (not_added_append es fs next) ∙ sym (append_assoc (error_if_taken message_kind id ids) (not_added es next) (not_added fs (added es next)))
  not_added_append (term_entry id p a ∷ es) fs ids =
      let next : Map (m.Entry C) = add_free id (a_term p a) ids in
      ap (λ r. error_if_taken term_kind id ids ++ r) (not_added_append es fs next) ∙ sym (append_assoc (error_if_taken term_kind id ids) (not_added es next) (not_added fs (added es next)))
  not_added_append (junk_entry c ∷ es) fs ids = not_added_append es fs ids

  -- ---- a step of a loop over entries of the code

  pub one_added : (es : List code.Entry) (i : ℕ) (d e : code.Entry) (ids next all : Map (m.Entry C)) → i < length es → e ≡ get_or es i d
      → next ≡ added (entry_view e ∷ []) ids → added (map entry_view (drop i es)) ids ≡ all → added (map entry_view (drop (i + 1) es)) next ≡ all
  one_added es i d e ids next all lt is step inv =
      ap (added (map entry_view (drop (i + 1) es))) step ∙ ap (λ x. added (map entry_view (drop (i + 1) es)) (added (entry_view x ∷ []) ids)) is
      ∙ sym (added_append (entry_view (get_or es i d) ∷ []) (map entry_view (drop (i + 1) es)) ids)
      ∙ ap (λ r. added (map entry_view r) ids) (sym (drop_more es i d lt)) ∙ inv

  pub one_overridden : (es : List code.Entry) (i : ℕ) (d e : code.Entry) (ids next all : Map (m.Entry C)) → i < length es → e ≡ get_or es i d
      → next ≡ overridden (entry_view e ∷ []) ids → overridden (map entry_view (drop i es)) ids ≡ all → overridden (map entry_view (drop (i + 1) es)) next ≡ all
  one_overridden es i d e ids next all lt is step inv =
      ap (overridden (map entry_view (drop (i + 1) es))) step ∙ ap (λ x. overridden (map entry_view (drop (i + 1) es)) (overridden (entry_view x ∷ []) ids)) is
      ∙ sym (overridden_append (entry_view (get_or es i d) ∷ []) (map entry_view (drop (i + 1) es)) ids)
      ∙ ap (λ r. overridden (map entry_view r) ids) (sym (drop_more es i d lt)) ∙ inv

  -- what one more entry tells
  pub one_told : (es : List code.Entry) (i : ℕ) (d e : code.Entry) (so more : List Error) (ids : Map (m.Entry C)) → i < length es → e ≡ get_or es i d
      → more ≡ so ++ not_added (entry_view e ∷ []) (added (map entry_view (take i es)) ids) → so ≡ not_added (map entry_view (take i es)) ids
      → more ≡ not_added (map entry_view (take (i + 1) es)) ids
  one_told es i d e so more ids lt is step inv =
      step ∙ ap (λ s. s ++ not_added (entry_view e ∷ []) (added (map entry_view (take i es)) ids)) inv
      ∙ ap (λ x. not_added (map entry_view (take i es)) ids ++ not_added (entry_view x ∷ []) (added (map entry_view (take i es)) ids)) is
      ∙ sym (not_added_append (map entry_view (take i es)) (entry_view (get_or es i d) ∷ []) ids)
      ∙ ap (λ r. not_added r ids) (sym (map_more entry_view es i d lt))

  -- the ids after one more entry
  pub one_taken : (es : List code.Entry) (i : ℕ) (d e : code.Entry) (ids : Map (m.Entry C)) → i < length es → e ≡ get_or es i d
      → added (entry_view e ∷ []) (added (map entry_view (take i es)) ids) ≡ added (map entry_view (take (i + 1) es)) ids
  one_taken es i d e ids lt is =
      ap (λ x. added (entry_view x ∷ []) (added (map entry_view (take i es)) ids)) is
      ∙ sym (added_append (map entry_view (take i es)) (entry_view (get_or es i d) ∷ []) ids)
      ∙ ap (λ r. added r ids) (sym (map_more entry_view es i d lt))

  -- what an entry by itself tells
  pub alone : (kind : Kind) (id : Text) (ids : Map (m.Entry C)) (so more : List Error) → more ≡ so ++ error_if_taken kind id ids → more ≡ so ++ (error_if_taken kind id ids ++ [])
  alone kind id ids so more told = told ∙ ap (λ r. so ++ r) (sym (append-nil (error_if_taken kind id ids)))
