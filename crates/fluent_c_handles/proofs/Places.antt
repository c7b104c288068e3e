-- The first of several bundles, by its index.
use Rattle.std.proofs.Common.{arith, ◌≡◌, ◌∙◌, sym, ap, ℕ, ◌<◌, ◌≤◌, Bool, true, false, List, length, get_or, set, Option, Some, None}
use Rattle.std.proofs.lemmas.Grind.{common_steps}
use Rattle.std.specs.Prelude.{slice_get}
use Rattle.std.specs.List.{find, position, position_or_len}
use Rattle.std.proofs.Math.Seq.{map-set_same}
use Rattle.std.proofs.lemmas.List.{get_or-map}
use Rattle.std.proofs.lemmas.Option.{slice_get-get_or, slice_get_past}
use Rattle.std.proofs.lemmas.List.Folds.{find_at}
use Rattle.std.proofs.lemmas.List.Sums.{position_or_len_is}
use Rattle.std.proofs.lemmas.List.Quantifiers.{position-Some}
use Rattle.fluent_c_handles.specs.Answers.{SlotsStay, all_kept, kept_in}
use Rattle.fluent_c_handles.specs.declared.slot.Slot.{Slot}

module _ {X : Type 0} (test : X → Bool) (xs : List X) where
  pub index_of : (i : ℕ) (d : X) → i < length xs → ((k : ℕ) → k < i → test (get_or xs k d) ≡ false) → test (get_or xs i d) ≡ true → Some i ≡ position test xs
  index_of i d lt before here =
      let n : position_or_len test xs ≡ i = position_or_len_is test xs i d (omega arith) before (λ h. here) in
      grind (arith, common_steps)

  pub no_index : (i : ℕ) (d : X) → length xs ≤ i → ((k : ℕ) → k < i → test (get_or xs k d) ≡ false) → None ≡ position test xs
  no_index i d past before =
      let n : position_or_len test xs ≡ length xs = position_or_len_is test xs (length xs) d (omega arith) (λ k h. before k (omega arith)) (λ h. absurd (omega arith)) in
      grind (arith, common_steps)

  pub within : (i : ℕ) (d : X) → Some i ≡ position test xs → i < length xs
  within i d is = (position-Some test xs i d (sym is)).0

  pub found_at : (i : ℕ) (d : X) → Some i ≡ position test xs → find test xs ≡ Some (get_or xs i d)
  found_at i d is =
      let some : position test xs ≡ Some i = sym is in
      let n : position_or_len test xs ≡ i = grind (arith, common_steps) in
      find_at test xs ∙ ap (slice_get xs) n ∙ slice_get-get_or xs i d (within i d is)

  pub found_none : None ≡ position test xs → find test xs ≡ None
  found_none is =
      let none : position test xs ≡ None = sym is in
      let n : length xs ≤ position_or_len test xs = grind (arith, common_steps) in
      find_at test xs ∙ slice_get_past xs _ n

module _ (slots before : List Slot) (same : SlotsStay before slots) (i : ℕ) (lt : i < length slots) (d : Slot) where
  pub stands_at : get_or (all_kept before) i None ≡ kept_in (get_or slots i d)
  stands_at = ap (λ ks. get_or ks i None) (sym same.0) ∙ get_or-map kept_in slots i d None lt

  pub left_by : (new : Slot) → kept_in new ≡ kept_in (get_or slots i d) → new.beside ≡ (get_or slots i d).beside → SlotsStay before (set slots i new)
  left_by new alike beside = (map-set_same kept_in slots i new d alike ∙ same.0, map-set_same (λ (slot : Slot). slot.beside) slots i new d beside ∙ same.1)
