-- Lists from the last element, as the reader gathers elements.
use Rattle.std.specs.Prelude.{◌≡◌, ℕ, Bool, List, [], ◌∷◌, ◌++◌, Vec}
use Rattle.std.specs.declared.alloc.Global.{Global}
use Rattle.fluent_ast.specs.Tree.{Element}
use Rattle.fluent_ast.specs.View.{element_view}
use Rattle.fluent_ast.specs.declared.ast.PatternElement.{PatternElement}
use Rattle.fluent_syntax.specs.Layout.{Piece, lines, starts_line}
use Rattle.fluent_syntax.specs.Inside.Reading.{all}

abbrev pub backwards : {A : Type 0} → List A → List A
backwards [] = []
backwards (x ∷ xs) = backwards xs ++ x ∷ []

-- these elements are put before those that were gathered
abbrev pub Prepends : Vec PatternElement Global → Vec PatternElement Global → List Element → Type 0
Prepends old new es = (done : List Element) → all element_view old ≡ backwards done → all element_view new ≡ backwards (es ++ done)

-- these are the elements of pieces, from the last, before anything is trimmed
abbrev pub HoldsLines : ℕ → Vec PatternElement Global → List Piece → Type 0
HoldsLines common out ps = all element_view out ≡ backwards (lines common ps)

-- the elements of a piece are put before those of other pieces, of which the first is a line start or isn't
abbrev pub PrependsPiece : ℕ → Bool → Vec PatternElement Global → Vec PatternElement Global → Piece → Type 0
PrependsPiece common after_line old new p = (done : List Piece) → HoldsLines common old done → after_line ≡ starts_line done → HoldsLines common new (p ∷ done)

-- whether this piece is a line start
abbrev pub TellsStart : Piece → Bool → Type 0
TellsStart p at_line = (done : List Piece) → at_line ≡ starts_line (p ∷ done)
