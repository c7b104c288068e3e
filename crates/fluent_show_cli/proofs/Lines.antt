-- Lines of errors, one more at a time.
use Rattle.std.proofs.Common.{◌≡◌, ◌∙◌, sym, ap, refl, ℕ, suc, ◌+◌, ◌<◌, List, [], ◌∷◌, ◌++◌, take, drop, length, get_or, append_assoc, append-nil, add-one}
use Rattle.std.proofs.Math.Seq.{take-suc}
use Rattle.std.proofs.lemmas.List.{take-append-drop, map-append}
use Rattle.fluent_semantics.specs.Errors.{Error, error_text}
use Rattle.fluent_resolver_state.specs.Status.{reported}
use Rattle.fluent_bundle_entries.specs.ErrorView.{error_view}
use Rattle.fluent_bundle_entries.specs.declared.errors.FluentError.{FluentError}
use Rattle.fluent_show_cli.specs.Program.{line, error_lines}
use Rattle.fluent_show_cli.specs.Runs.{Precedes}

error_lines-append : (xs ys : List Error) → error_lines (xs ++ ys) ≡ error_lines xs ++ error_lines ys
error_lines-append [] ys = refl
error_lines-append (x ∷ xs) ys = ap (λ w. line (error_text x) ++ w) (error_lines-append xs ys) ∙ sym (append_assoc (line (error_text x)) (error_lines xs) (error_lines ys))

-- the lines of one error more
pub one_more : (errors : List FluentError) (i : ℕ) (e : FluentError) → i < length errors → e ≡ get_or errors i e
    → error_lines (reported (take (i + 1) errors)) ≡ error_lines (reported (take i errors)) ++ line (error_text (error_view e))
one_more errors i e within is =
    ap (λ n. error_lines (reported (take n errors))) (add-one i)
    ∙ ap (λ es. error_lines (reported es)) (take-suc errors i e within)
    ∙ ap error_lines (map-append error_view (take i errors) (get_or errors i e ∷ []))
    ∙ error_lines-append (reported (take i errors)) (error_view (get_or errors i e) ∷ [])
    ∙ ap (λ t. error_lines (reported (take i errors)) ++ t) (append-nil (line (error_text (error_view (get_or errors i e)))))
    ∙ ap (λ x. error_lines (reported (take i errors)) ++ line (error_text (error_view x))) (sym is)

-- the errors before the one at an index
pub first_precede : (errors : List FluentError) (i : ℕ) (e : FluentError) → i < length errors → Precedes (reported (take i errors)) (reported errors)
first_precede errors i e within =
    let after = reported (drop (suc i) errors) in
    let whole = ap reported (sym (take-append-drop (suc i) errors))
    ∙ map-append error_view (take (suc i) errors) (drop (suc i) errors)
    ∙ ap (λ es. reported es ++ after) (take-suc errors i e within)
    ∙ ap (λ es. es ++ after) (map-append error_view (take i errors) (get_or errors i e ∷ [])) in
    (error_view (get_or errors i e), (after, whole))

-- the lines of the first errors, and those of the others
pub lines_on : (errors : List FluentError) (i : ℕ) → error_lines (reported errors) ≡ error_lines (reported (take i errors)) ++ error_lines (reported (drop i errors))
lines_on errors i =
    ap (λ es. error_lines (reported es)) (sym (take-append-drop i errors))
    ∙ ap error_lines (map-append error_view (take i errors) (drop i errors))
    ∙ error_lines-append (reported (take i errors)) (reported (drop i errors))
