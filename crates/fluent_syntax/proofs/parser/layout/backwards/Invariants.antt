use Rattle.std.proofs.Common.{◌≡◌, List, ◌++◌, length, map}
use Rattle.fluent_syntax.specs.Inside.Backwards.{backwards}
use Rattle.fluent_ast.specs.View.{element_view}
use Rattle.fluent_syntax.specs.Layout.{Piece, lines, starts_line}
use Rattle.fluent_syntax.specs.Inside.PieceView.{piece_view}
use Rattle.fluent_syntax.proofs.parser.layout.backwards.Given as goal

abbrev pub invariant-pieces : goal.invariant-pieces
invariant-pieces l =
    (done : List Piece) × (map piece_view l.fn.pieces.items ≡ map piece_view l.left.items ++ done) × (map element_view l.out.items ≡ backwards (lines l.common done)) × (l.after_line ≡ starts_line done)

abbrev pub decreases-pieces : goal.decreases-pieces
decreases-pieces l = length l.left.items
