-- The layout of a pattern leaves slices of the source, where its pieces stand in the source.
use Rattle.std.proofs.Common.{◌≡◌, ℕ, zero, suc, ◌+◌, ◌-◌, Bool, true, false, ◌&&◌, List, [], ◌∷◌, ◌++◌, drop, refl, sym, ap, ◌∙◌, append_assoc, arith}
use Rattle.std.specs.Prelude.{replicate, unwrap_or}
use Rattle.std.specs.List.{prefix_len}
use Rattle.std.proofs.lemmas.List.{replicate-append-replicate}
use Rattle.fluent_ast.specs.Tree.{Text, Element, text, placeable, pattern_of}
use Rattle.fluent_syntax.specs.Layout.{Words, Piece, line, words, hole, common_indent, dedented, feed, unless_empty, starts_line, joined, lines, is_feed, trim_start, trim_spaces, trimmed, trim_last, elements}
use Rattle.fluent_grammar_laws.specs.SliceLaws.{IsSlice, SlicesOfExpression, SlicesOfElement, SlicesOfPattern}
use Rattle.fluent_grammar_laws.proofs.Slices.{slice_end, slice_prefix, slice_take}

abbrev pub OfElements : Text → List Element → Type 0
OfElements w es = SlicesOfPattern w (pattern_of es)

-- the line feed that follows words directly
abbrev pub ending : Bool → Text
ending true = 10 ∷ []
ending false = []

abbrev pub blanks : ℕ → Text
blanks n = replicate n 32

-- the spaces before words
abbrev pub spaces : Words → Text
spaces x = blanks (unwrap_or x.indent 0)

-- Words stand in the source after their spaces and before their line feed. Where lines end, there is a line feed.
abbrev pub OfPiece : Text → Piece → Type 0
OfPiece w (line k) = IsSlice w (10 ∷ [])
OfPiece w (words x) = IsSlice w (spaces x ++ (x.bytes ++ ending x.fed))
OfPiece w (hole e) = SlicesOfExpression w e

abbrev pub OfPieces : Text → List Piece → Type 0
OfPieces w [] = Unit {0}
OfPieces w (p ∷ ps) = OfPiece w p × OfPieces w ps

pub pieces_append : (w : Text) (ps qs : List Piece) → OfPieces w ps → OfPieces w qs → OfPieces w (ps ++ qs)
pieces_append w [] qs h k = k
pieces_append w (p ∷ ps) qs h k = (h.0, pieces_append w ps qs h.1 k)

append : (w : Text) (es fs : List Element) → OfElements w es → OfElements w fs → OfElements w (es ++ fs)
append w [] fs h k = k
append w (e ∷ es) fs h k = (h.0, append w es fs h.1 k)

dropped : (w : Text) (k : ℕ) (es : List Element) → OfElements w es → OfElements w (drop k es)
dropped w zero es h = h
dropped w (suc k) [] h = h
dropped w (suc k) (e ∷ es) h = dropped w k es h.1

feeds : (w : Text) (k : ℕ) → IsSlice w (10 ∷ []) → OfElements w (replicate k feed)
feeds w zero h = tt
feeds w (suc k) h = (h, feeds w k h)

unless : (w t : Text) → IsSlice w t → OfElements w (unless_empty t)
unless w [] h = tt
unless w (b ∷ bs) h = (h, tt)

-- ---- the indent

split : (m j k : ℕ) → m + j ≡ k → blanks k ≡ blanks m ++ blanks j
split m j k e = ap blanks (sym e) ∙ sym (replicate-append-replicate m j 32)

after : (m j k : ℕ) (t e : Text) → m + j ≡ k → blanks k ++ (t ++ e) ≡ blanks m ++ ((blanks j ++ t) ++ e)
after m j k t e n =
    ap (λ r. r ++ (t ++ e)) (split m j k n)
    ∙ (append_assoc (blanks m) (blanks j) (t ++ e) ∙ ap (λ r. blanks m ++ r) (sym (append_assoc (blanks j) t e)))

-- what dedenting leaves, before the line feed
left : (w : Text) (common : ℕ) (x : Words) → OfPiece w (words x) → IsSlice w (dedented common x ++ ending x.fed)
left w common x h =
    let k = unwrap_or x.indent 0 in
    slice_end w _ (blanks (k - (k - common))) _ h (after (k - (k - common)) (k - common) k x.bytes (ending x.fed) (omega arith))

-- ---- lines

join : (w t : Text) (fed starts : Bool) (es : List Element) → IsSlice w (t ++ ending fed) → OfElements w es → OfElements w (joined t (fed && starts) es)
join w t true true es s h = (s, dropped w 1 es h)
join w t true false es s h = append w (unless_empty t) es (unless w t (slice_prefix w _ t (10 ∷ []) s refl)) h
join w t false starts es s h = append w (unless_empty t) es (unless w t (slice_prefix w _ t [] s refl)) h

by_lines : (w : Text) (common : ℕ) (ps : List Piece) → OfPieces w ps → OfElements w (lines common ps)
unfolding lines
by_lines w common [] h = tt
by_lines w common (line k ∷ ps) h = append w (replicate k feed) (lines common ps) (feeds w k h.0) (by_lines w common ps h.1)
by_lines w common (hole x ∷ ps) h = (h.0, by_lines w common ps h.1)
by_lines w common (words x ∷ ps) h = join w (dedented common x) x.fed (starts_line ps) (lines common ps) (left w common x h.0) (by_lines w common ps h.1)

-- ---- both ends

trim : (w : Text) (e : Element) → SlicesOfElement w e → OfElements w (trimmed e)
trim w (text t) h = unless w (trim_spaces t) (slice_take w t _ h)
trim w (placeable x) h = (h, tt)

trim_end : (w : Text) (es : List Element) → OfElements w es → OfElements w (trim_last es)
trim_end w [] h = tt
trim_end w (e ∷ []) h = trim w e h.0
trim_end w (e ∷ f ∷ es) h = (h.0, trim_end w (f ∷ es) h.1)

pub slices_laid_out : (w : Text) (ps : List Piece) → OfPieces w ps → OfElements w (elements ps)
unfolding elements
slices_laid_out w ps h =
    let whole = lines (common_indent ps) ps in
    trim_end w (trim_start whole) (dropped w (prefix_len is_feed whole) whole (by_lines w (common_indent ps) ps h))
