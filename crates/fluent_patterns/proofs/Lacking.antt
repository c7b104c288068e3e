-- Flaws of categories that a select lacks, one after the other.
use Rattle.std.proofs.Common.{◌≡◌, ℕ, ◌+◌, ◌<◌, ◌≤◌, Bool, true, false, List, ◌∷◌, ◌++◌, cond, filter, length, get_or, drop, map, refl, sym, ap, ◌∙◌}
use Rattle.std.proofs.lemmas.List.{append_assoc, append-nil, at_drop_more, at_drop_all}
use Rattle.fluent_patterns.specs.Categories as t
use Rattle.fluent_patterns.specs.CategoryView.{category_view}
use Rattle.fluent_patterns.specs.Found.{Flaw, the_select, no_category}
use Rattle.fluent_patterns.specs.Selects.{flaw_if, select_flaws_at}
use Rattle.fluent_patterns.specs.declared.categories.Category.{Category}

kept : (n : ℕ) (b : Bool) (c : t.Category) (cs : List t.Category) → select_flaws_at n (cond b (c ∷ cs) cs) ≡ flaw_if b (the_select n, no_category c.key) ++ select_flaws_at n cs
kept n true c cs = refl
kept n false c cs = refl

module _ (n : ℕ) (test : t.Category → Bool) where
  abbrev pub told : List Category → List Flaw
  told xs = select_flaws_at n (filter test (map category_view xs))

  pub told_more : (xs : List Category) (i : ℕ) (x : Category) (old new whole : List Flaw) → i < length xs → x ≡ get_or xs i x → old ++ told (drop i xs) ≡ whole
      → new ≡ old ++ flaw_if (test (category_view x)) (the_select n, no_category (category_view x).key) → new ++ told (drop (i + 1) xs) ≡ whole
  told_more xs i x old new whole h is e added =
      let one : List Flaw = flaw_if (test (category_view x)) (the_select n, no_category (category_view x).key) in
      let left : told (drop i xs) ≡ one ++ told (drop (i + 1) xs) =
      at_drop_more told xs i x h ∙ (ap (λ w. told (w ∷ drop (i + 1) xs)) (sym is) ∙ kept n (test (category_view x)) (category_view x) (filter test (map category_view (drop (i + 1) xs)))) in
      ap (λ w. w ++ told (drop (i + 1) xs)) added ∙ (append_assoc old one (told (drop (i + 1) xs)) ∙ (ap (λ w. old ++ w) (sym left) ∙ e))

  pub told_end : (xs : List Category) (i : ℕ) (old whole : List Flaw) → length xs ≤ i → old ++ told (drop i xs) ≡ whole → old ≡ whole
  told_end xs i old whole h e = sym (append-nil old) ∙ (ap (λ w. old ++ w) (sym (at_drop_all told xs i h)) ∙ e)
