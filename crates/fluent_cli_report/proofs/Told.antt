-- What is told of one row more.
use Rattle.std.proofs.Common.{◌≡◌, ℕ, ◌+◌, ◌<◌, Bool, true, false, cond, List, [], ◌∷◌, ◌++◌, map, drop, length, get_or, refl, sym, ap, ◌∙◌, append_assoc}
use Rattle.std.proofs.lemmas.List.{at_drop_more}
use Rattle.fluent_cli_report.specs.Kept.{row_view, row_views}
use Rattle.fluent_cli_report.specs.Rows.{Row}
use Rattle.fluent_cli_report.specs.Told.{is_told, told}
use Rattle.fluent_cli_report.specs.declared.rows.Row as code

told_on : {X : Type 0} (f : Row → X) (little : Bool) (r : Row) (rs : List Row) → map f (told little (r ∷ rs)) ≡ map f (told little (r ∷ [])) ++ map f (told little rs)
told_on f little r rs =
    elim (is_told little r) as (λ b. map f (cond b (r ∷ told little rs) (told little rs)) ≡ map f (cond b (r ∷ []) []) ++ map f (told little rs)) [
      | true ↦ refl
      | false ↦ refl
    ]

-- what is left after one more
pub told_further : {X : Type 0} (f : Row → X) (little : Bool) (xs : List code.Row) (i : ℕ) (x : code.Row) (old new whole : List X)
    → i < length xs → x ≡ get_or xs i x → new ≡ old ++ map f (told little (row_view x ∷ []))
    → old ++ map f (told little (row_views (drop i xs))) ≡ whole
    → new ++ map f (told little (row_views (drop (i + 1) xs))) ≡ whole
told_further f little xs i x old new whole h is added e =
    let left = row_views (drop (i + 1) xs) in
    let one = map f (told little (row_view x ∷ [])) in
    ap (λ ys. ys ++ map f (told little left)) added
    ∙ append_assoc old one (map f (told little left))
    ∙ ap (λ ys. old ++ ys) (sym (told_on f little (row_view x) left))
    ∙ ap (λ y. old ++ map f (told little (row_view y ∷ left))) is
    ∙ sym (at_drop_more (λ ys. old ++ map f (told little (row_views ys))) xs i x h)
    ∙ e
