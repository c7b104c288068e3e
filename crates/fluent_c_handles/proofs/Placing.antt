-- What is passed over, by the indices of its entries and by where they begin.
use Rattle.std.proofs.Common.{◌≡◌, ℕ, zero, suc, ◌+◌, ◌<◌, List, [], ◌∷◌, ◌++◌, length, get_or, map, refl, sym, ap, ◌∙◌, subst, arith}
use Rattle.std.proofs.lemmas.List.{append_assoc, map-append, length-append}
use Rattle.fluent_ast.specs.Tree.{Text, Entry}
use Rattle.fluent_syntax.specs.Chunks.{entries, entry_starts}
use Rattle.fluent_semantics.specs.Arguments.{Map}
use Rattle.fluent_semantics.specs.Bundle as m
use Rattle.fluent_semantics.specs.Bundle.{Function, added, not_added}
use Rattle.fluent_semantics.specs.Errors.{Error}
use Rattle.fluent_semantics.specs.Value.{error_value}
use Rattle.fluent_bundle_entries.specs.EntryView.{ids}
use Rattle.fluent_bundle_entries.specs.ErrorView.{error_view}
use Rattle.fluent_bundle_entries.specs.declared.ids.Ids.{Ids}
use Rattle.fluent_c_handles.specs.Calls.Adding.{PassedOver, passed_over, placed}
use Rattle.fluent_c_handles.specs.Facts.Errors.{as_many}
use Rattle.fluent_c_handles.specs.Inside.Seen.{AreLeft, left_from, left_view}
use Rattle.fluent_c_handles.specs.Inside.Telling.{HaveStarts, left_at}
use Rattle.fluent_c_handles.specs.declared.left.Left.{Left}

-- ---- from indices to places

abbrev at_index : List ℕ → PassedOver → PassedOver
at_index starts l = (get_or starts l.0 0, l.1)

found : (before : List ℕ) (at : ℕ) (ats : List ℕ) → get_or (before ++ at ∷ ats) (length before) 0 ≡ at
found [] at ats = refl
found (b ∷ before) at ats = found before at ats

placed_at : (starts : List ℕ) (k at : ℕ) (errors : List Error) → get_or starts k 0 ≡ at → map (at_index starts) (placed k errors) ≡ placed at errors
placed_at starts k at [] is = refl
placed_at starts k at (e ∷ es) is = ap (λ n. (n, e) ∷ map (at_index starts) (placed k es)) is ∙ ap (λ l. (at, e) ∷ l) (placed_at starts k at es is)

-- each index is one of an entry
abbrev below : ℕ → List PassedOver → Type 0
below n [] = Unit {0}
below n (l ∷ ls) = (l.0 < n) × below n ls

below_placed : (n k : ℕ) (errors : List Error) (more : List PassedOver) → k < n → below n more → below n (placed k errors ++ more)
below_placed n k [] more lt b = b
below_placed n k (e ∷ es) more lt b = (lt, below_placed n k es more lt b)

have_starts : (starts : List ℕ) (all : List Left) → below (length starts) (map left_view all) → HaveStarts starts all
have_starts starts [] b k d lt = absurd (omega arith)
have_starts starts (l ∷ ls) b zero d lt = b.0
have_starts starts (l ∷ ls) b (suc k) d lt = have_starts starts ls b.1 k d (omega arith)

module _ {C : Type 0} where
  left_placed : (before starts : List ℕ) (k : ℕ) (es : List Entry) (ids : Map (m.Entry C)) → k ≡ length before → length starts ≡ length es → map (at_index (before ++ starts)) (left_from k es ids) ≡ passed_over starts es ids
  left_placed before [] k [] ids is same = refl
  left_placed before [] k (e ∷ es) ids is same = absurd (omega (arith, same))
  left_placed before (at ∷ ats) k [] ids is same = absurd (omega (arith, same))
  left_placed before (at ∷ ats) k (e ∷ es) ids is same =
      let all = before ++ at ∷ ats in
      let errors = not_added (e ∷ []) ids in
      let on = added (e ∷ []) ids in
      let here : get_or all k 0 ≡ at = ap (λ n. get_or all n 0) is ∙ found before at ats in
      let longer : suc k ≡ length (before ++ at ∷ []) = omega (arith, is, length-append before (at ∷ [])) in
      let then = left_placed (before ++ at ∷ []) ats (suc k) es on longer (omega (arith, same)) in
      map-append (at_index all) (placed k errors) (left_from (suc k) es on)
      ∙ (ap (λ l. l ++ map (at_index all) (left_from (suc k) es on)) (placed_at all k at errors here)
      ∙ (ap (λ b. placed at errors ++ map (at_index b) (left_from (suc k) es on)) (sym (append_assoc before (at ∷ []) ats))
      ∙ ap (λ l. placed at errors ++ l) then))

  left_below : (n k : ℕ) (es : List Entry) (ids : Map (m.Entry C)) → k + length es ≡ n → below n (left_from k es ids)
  left_below n k [] ids is = tt
  left_below n k (e ∷ es) ids is = below_placed n k (not_added (e ∷ []) ids) (left_from (suc k) es (added (e ∷ []) ids)) (omega (arith, is)) (left_below n (suc k) es (added (e ∷ []) ids) (omega (arith, is)))

at_views : (starts : List ℕ) (all : List Left) → left_at starts all ≡ map (at_index starts) (map left_view all)
at_views starts [] = refl
at_views starts (l ∷ ls) = ap (λ ls'. (get_or starts l.entry 0, error_view l.error) ∷ ls') (at_views starts ls)

-- ---- of a source

module _ {F : Type 0} (known : Ids F) (source : Text) (es : List Entry) (all : List Left) (same : es ≡ entries source) (are : AreLeft known es all) where
  pub have : (starts : List ℕ) → starts ≡ entry_starts source → HaveStarts starts all
  have starts is =
      let n : length starts ≡ length es = ap length is ∙ (as_many source ∙ ap length (sym same)) in
      let first = ids (λ f vs named. error_value) known in
      have_starts starts all (subst (below (length starts)) (sym (are (λ f vs named. error_value))) (left_below (length starts) 0 es first (omega (arith, n))))

  pub left_are : (starts : List ℕ) → starts ≡ entry_starts source → (answer : F → Function Text) → left_at starts all ≡ passed_over (entry_starts source) (entries source) (ids answer known)
  left_are starts is answer =
      let first = ids answer known in
      let n : length starts ≡ length es = ap length is ∙ (as_many source ∙ ap length (sym same)) in
      at_views starts all ∙ (ap (map (at_index starts)) (are answer) ∙ (left_placed [] starts 0 es first refl n ∙ (ap (λ s. passed_over s es first) is ∙ ap (λ e. passed_over (entry_starts source) e first) same)))

  pub none_left : all ≡ [] → (answer : F → Function Text) → [] ≡ passed_over (entry_starts source) (entries source) (ids answer known)
  none_left none answer = sym (ap (left_at (entry_starts source)) none) ∙ left_are (entry_starts source) refl answer
