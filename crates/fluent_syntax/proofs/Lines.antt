-- The lines of a pattern, piece by piece.
use Rattle.std.proofs.Common.{◌≡◌, ◌&&◌, Bool, true, false, List, [], ◌∷◌, ◌++◌, drop, refl, sym, ◌∙◌, ◌<◌, ◌≤◌, length, arith}
use Rattle.std.specs.Prelude.{ℕ}
use Rattle.fluent_ast.specs.Tree.{Text, text}
use Rattle.fluent_syntax.specs.Layout.{Words, Piece, words, dedented, lines, starts_line, unless_empty}

-- a text whose line feed follows
pub words_fed : (common : ℕ) (w : Words) (done : List Piece) (u : Text) → w.fed ≡ true → true ≡ starts_line done → u ≡ dedented common w ++ 10 ∷ []
    → text u ∷ drop 1 (lines common done) ≡ lines common (words w ∷ done)
unfolding lines
words_fed common w done u f l e = rw (f, ← l, e)

-- a text by itself
pub words_alone : (common : ℕ) (w : Words) (done : List Piece) (u : Text) → (w.fed && starts_line done) ≡ false → u ≡ dedented common w
    → unless_empty u ++ lines common done ≡ lines common (words w ∷ done)
unfolding lines
words_alone common w done u f e = rw (f, e)

pub not_empty : (u : Text) → 0 < length u → unless_empty u ≡ text u ∷ []
not_empty [] h = absurd (omega arith)
not_empty (b ∷ bs) h = refl

pub is_empty : (u : Text) → length u ≤ 0 → unless_empty u ≡ []
is_empty [] h = refl
is_empty (b ∷ bs) h = absurd (omega arith)

pub either_false : (a b c : Bool) → a ≡ b → a ≡ false → (c && b) ≡ false
either_false a b true e f = sym e ∙ f
either_false a b false e f = refl

pub first_false : (a b : Bool) → a ≡ false → (a && b) ≡ false
first_false a b e = rw e
