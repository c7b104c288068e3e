-- The errors that are told of entries that are passed over are those of adding. No contract cites them.
use Rattle.std.proofs.Common.{◌≡◌, ℕ, ◌+◌, List, [], ◌∷◌, ◌++◌, length, map, refl, sym, ap, ◌∙◌, arith}
use Rattle.std.proofs.lemmas.List.{append-nil, map-append, length-append}
use Rattle.fluent_ast.specs.Tree.{Text, Entry, message_entry, term_entry, junk_entry}
use Rattle.fluent_syntax.specs.Chunks.{Chunk, Part, entry_part, blank_part, junk_part, chunks, entries, entries_of, part_entry, entry_starts, start_of_part, starts_from}
use Rattle.fluent_semantics.specs.Arguments.{Map}
use Rattle.fluent_semantics.specs.Bundle as m
use Rattle.fluent_semantics.specs.Bundle.{a_message, a_term, add_free, added, error_if_taken, not_added}
use Rattle.fluent_semantics.specs.Errors.{Error, message_kind, term_kind}
use Rattle.fluent_c_handles.specs.Calls.Adding.{passed_over, placed}

-- ---- as many places as entries

part_length : (at : ℕ) (bytes : Text) (p : Part) → length (start_of_part at p) ≡ length (part_entry bytes p)
part_length at bytes (entry_part e) = refl
part_length at bytes blank_part = refl
part_length at bytes junk_part = refl

starts_length : (at : ℕ) (cs : List Chunk) → length (starts_from at cs) ≡ length (entries_of cs)
starts_length at [] = refl
starts_length at (c ∷ cs) =
    let next = at + length c.bytes in
    let here = part_entry c.bytes c.part in
    length-append (start_of_part at c.part) (starts_from next cs)
    ∙ (ap (λ n. n + length (starts_from next cs)) (part_length at c.bytes c.part)
    ∙ (ap (λ n. length here + n) (starts_length next cs) ∙ sym (length-append here (entries_of cs))))

pub as_many : (source : Text) → length (entry_starts source) ≡ length (entries source)
as_many source = starts_length 0 (chunks source)

-- ---- the errors

placed_errors : (at : ℕ) (errors : List Error) → map (λ l. l.1) (placed at errors) ≡ errors
placed_errors at [] = refl
placed_errors at (e ∷ es) = ap (λ l. e ∷ l) (placed_errors at es)

module _ {C : Type 0} where
  then_not_added : (e : Entry) (es : List Entry) (ids : Map (m.Entry C)) → not_added (e ∷ es) ids ≡ not_added (e ∷ []) ids ++ not_added es (added (e ∷ []) ids)
  then_not_added (message_entry id v as') es ids = ap (λ l. l ++ not_added es (add_free id (a_message v as') ids)) (sym (append-nil (error_if_taken message_kind id ids)))
  then_not_added (term_entry id p as') es ids = ap (λ l. l ++ not_added es (add_free id (a_term p as') ids)) (sym (append-nil (error_if_taken term_kind id ids)))
  then_not_added (junk_entry source) es ids = refl

  left_errors : (starts : List ℕ) (es : List Entry) (ids : Map (m.Entry C)) → length starts ≡ length es → map (λ l. l.1) (passed_over starts es ids) ≡ not_added es ids
  left_errors [] [] ids same = refl
  left_errors [] (e ∷ es) ids same = absurd (omega (arith, same))
  left_errors (at ∷ ats) [] ids same = absurd (omega (arith, same))
  left_errors (at ∷ ats) (e ∷ es) ids same =
      let here = not_added (e ∷ []) ids in
      let on = added (e ∷ []) ids in
      map-append (λ l. l.1) (placed at here) (passed_over ats es on)
      ∙ (ap (λ l. l ++ map (λ l. l.1) (passed_over ats es on)) (placed_errors at here)
      ∙ (ap (λ l. here ++ l) (left_errors ats es on (omega (arith, same))) ∙ sym (then_not_added e es ids)))

  -- of a source, what is passed over has the errors of adding its entries
  pub left_of_source : (source : Text) (ids : Map (m.Entry C)) → map (λ l. l.1) (passed_over (entry_starts source) (entries source) ids) ≡ not_added (entries source) ids
  left_of_source source ids = left_errors (entry_starts source) (entries source) ids (as_many source)
