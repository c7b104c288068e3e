-- The layout of a pattern keeps its placeables, and no text that it leaves is empty.
use Rattle.std.proofs.Common.{ℕ, zero, suc, Bool, true, false, ◌&&◌, List, [], ◌∷◌, ◌++◌, drop, arith, length-append}
use Rattle.std.specs.Prelude.{replicate}
use Rattle.std.specs.List.{prefix_len}
use Rattle.fluent_ast.specs.Tree.{Text, Element, text, placeable, pattern_of}
use Rattle.fluent_syntax.specs.Layout.{Piece, line, words, hole, common_indent, dedented, feed, unless_empty, starts_line, joined, lines, is_feed, trim_start, trim_spaces, trimmed, trim_last, elements}
use Rattle.fluent_syntax.specs.WellFormed.{IsWellFormed, IsWellFormedElement, IsWellFormedPattern}

abbrev pub OfElements : ℕ → List Element → Type 0
OfElements n es = IsWellFormedPattern (pattern_of es) n

abbrev pub OfPiece : ℕ → Piece → Type 0
OfPiece n (line k) = Unit {0}
OfPiece n (words w) = Unit {0}
OfPiece n (hole x) = IsWellFormed x n

abbrev pub OfPieces : ℕ → List Piece → Type 0
OfPieces n [] = Unit {0}
OfPieces n (p ∷ ps) = OfPiece n p × OfPieces n ps

pub pieces_append : (n : ℕ) (ps qs : List Piece) → OfPieces n ps → OfPieces n qs → OfPieces n (ps ++ qs)
pieces_append n [] qs h k = k
pieces_append n (p ∷ ps) qs h k = (h.0, pieces_append n ps qs h.1 k)

append : (n : ℕ) (es fs : List Element) → OfElements n es → OfElements n fs → OfElements n (es ++ fs)
append n [] fs h k = k
append n (e ∷ es) fs h k = (h.0, append n es fs h.1 k)

dropped : (n k : ℕ) (es : List Element) → OfElements n es → OfElements n (drop k es)
dropped n zero es h = h
dropped n (suc k) [] h = h
dropped n (suc k) (e ∷ es) h = dropped n k es h.1

feeds : (n k : ℕ) → OfElements n (replicate k feed)
feeds n zero = tt
feeds n (suc k) = (omega arith, feeds n k)

unless : (n : ℕ) (t : Text) → OfElements n (unless_empty t)
unless n [] = tt
unless n (b ∷ bs) = (omega arith, tt)

join : (n : ℕ) (t : Text) (fed : Bool) (es : List Element) → OfElements n es → OfElements n (joined t fed es)
join n t true es h = (omega (arith, length-append t (10 ∷ [])), dropped n 1 es h)
join n t false es h = append n (unless_empty t) es (unless n t) h

by_lines : (n common : ℕ) (ps : List Piece) → OfPieces n ps → OfElements n (lines common ps)
unfolding lines
by_lines n common [] h = tt
by_lines n common (line k ∷ ps) h = append n (replicate k feed) (lines common ps) (feeds n k) (by_lines n common ps h.1)
by_lines n common (hole x ∷ ps) h = (h.0, by_lines n common ps h.1)
by_lines n common (words w ∷ ps) h = join n (dedented common w) (w.fed && starts_line ps) (lines common ps) (by_lines n common ps h.1)

trim : (n : ℕ) (e : Element) → IsWellFormedElement e n → OfElements n (trimmed e)
trim n (text t) h = unless n (trim_spaces t)
trim n (placeable x) h = (h, tt)

trim_end : (n : ℕ) (es : List Element) → OfElements n es → OfElements n (trim_last es)
trim_end n [] h = tt
trim_end n (e ∷ []) h = trim n e h.0
trim_end n (e ∷ f ∷ es) h = (h.0, trim_end n (f ∷ es) h.1)

pub laid_out : (n : ℕ) (ps : List Piece) → OfPieces n ps → OfElements n (elements ps)
unfolding elements
laid_out n ps h =
    let whole = lines (common_indent ps) ps in
    trim_end n (trim_start whole) (dropped n (prefix_len is_feed whole) whole (by_lines n (common_indent ps) ps h))
