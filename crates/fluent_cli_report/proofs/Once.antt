-- Findings that are kept once, one more.
use Rattle.std.proofs.Common.{◌≡◌, ℕ, ◌+◌, ◌<◌, ◌||◌, Bool, true, false, List, [], ◌∷◌, ◌++◌, map, drop, length, get_or, String, string_bytes, bytes_eq, Global, refl, sym, ap, ◌∙◌, append_assoc}
use Rattle.std.proofs.lemmas.Bool.{cond-true, cond-false}
use Rattle.std.proofs.lemmas.List.{at_drop_more, map-append}
use Rattle.std.specs.List.{list_any}
use Rattle.std.specs.declared.vec.Vec.{Vec}
use Rattle.fluent_ast.specs.Tree.{Text}
use Rattle.fluent_patterns.specs.Found.{Found, found_in, found_view}
use Rattle.fluent_patterns.specs.declared.finding.Finding.{Finding}
use Rattle.fluent_sources.specs.Files.{Read}
use Rattle.fluent_cli_report.specs.Rows.{kept_after, line_text, row_of}
use Rattle.fluent_cli_report.specs.Kept.{KeepsMore}

any_map : {X Y : Type 0} (f : X → Y) (p : Y → Bool) (xs : List X) → list_any p (map f xs) ≡ list_any (λ x. p (f x)) xs
any_map f p [] = refl
any_map f p (x ∷ xs) = ap (λ b. p (f x) || b) (any_map f p xs)

module _ (reads : List Read) where
  skip : (lines : List Text) (f : Found) (fs : List Found) → list_any (bytes_eq (line_text (row_of reads f))) lines ≡ true
      → kept_after reads lines (f ∷ fs) ≡ kept_after reads lines fs
  skip lines f fs h = cond-true _ _ _ h

  first : (lines : List Text) (f : Found) (fs : List Found) → list_any (bytes_eq (line_text (row_of reads f))) lines ≡ false
      → kept_after reads lines (f ∷ fs) ≡ f ∷ kept_after reads (lines ++ line_text (row_of reads f) ∷ []) fs
  first lines f fs h = cond-false _ _ _ h

module _ (reads : List Read) (f : Found) (text : Text) (lines : List (String Global)) (kept : Vec Finding Global) (is : text ≡ line_text (row_of reads f)) where
  pub kept_again : list_any (λ k. bytes_eq text (string_bytes k)) lines ≡ true → KeepsMore reads f lines lines kept kept
  kept_again h rest =
      let known : list_any (bytes_eq (line_text (row_of reads f))) (map string_bytes lines) ≡ true =
      any_map string_bytes (bytes_eq (line_text (row_of reads f))) lines ∙ ap (λ t. list_any (λ k. bytes_eq t (string_bytes k)) lines) (sym is) ∙ h in
      ap (λ fs. found_in kept ++ fs) (sym (skip reads (map string_bytes lines) f rest known))

  pub kept_new : (line : String Global) (x : Finding) (lines' : List (String Global)) (kept' : Vec Finding Global) → list_any (λ k. bytes_eq text (string_bytes k)) lines ≡ false
      → string_bytes line ≡ text → found_view x ≡ f → lines' ≡ lines ++ line ∷ [] → kept'.items ≡ kept.items ++ x ∷ [] → KeepsMore reads f lines lines' kept kept'
  kept_new line x lines' kept' h shown view noted pushed rest =
      let texts = map string_bytes lines in
      let unknown : list_any (bytes_eq (line_text (row_of reads f))) texts ≡ false =
      any_map string_bytes (bytes_eq (line_text (row_of reads f))) lines ∙ ap (λ t. list_any (λ k. bytes_eq t (string_bytes k)) lines) (sym is) ∙ h in
      ap (λ xs. map found_view xs ++ kept_after reads (map string_bytes lines') rest) pushed
      ∙ ap (λ fs. fs ++ kept_after reads (map string_bytes lines') rest) (map-append found_view kept.items (x ∷ []))
      ∙ append_assoc (found_in kept) (found_view x ∷ []) (kept_after reads (map string_bytes lines') rest)
      ∙ ap (λ g. found_in kept ++ g ∷ kept_after reads (map string_bytes lines') rest) view
      ∙ ap (λ ls. found_in kept ++ f ∷ kept_after reads ls rest) (ap (map string_bytes) noted ∙ map-append string_bytes lines (line ∷ []) ∙ ap (λ t. texts ++ t ∷ []) (shown ∙ is))
      ∙ ap (λ fs. found_in kept ++ fs) (sym (first reads texts f rest unknown))

-- what is left after one more
pub kept_further : (reads : List Read) (xs : List Finding) (i : ℕ) (x : Finding) (lines lines' : List (String Global)) (kept kept' : Vec Finding Global) (whole : List Found)
    → i < length xs → x ≡ get_or xs i x → KeepsMore reads (found_view x) lines lines' kept kept'
    → found_in kept ++ kept_after reads (map string_bytes lines) (map found_view (drop i xs)) ≡ whole
    → found_in kept' ++ kept_after reads (map string_bytes lines') (map found_view (drop (i + 1) xs)) ≡ whole
kept_further reads xs i x lines lines' kept kept' whole h is more e =
    let left = map found_view (drop (i + 1) xs) in
    more left
    ∙ ap (λ y. found_in kept ++ kept_after reads (map string_bytes lines) (found_view y ∷ left)) is
    ∙ sym (at_drop_more (λ ys. found_in kept ++ kept_after reads (map string_bytes lines) (map found_view ys)) xs i x h)
    ∙ e
