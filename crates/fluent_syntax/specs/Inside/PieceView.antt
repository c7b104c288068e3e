-- What the reader's pieces stand for.
use Rattle.fluent_ast.specs.View.{expression_view}
use Rattle.fluent_syntax.specs.Layout.{Piece, line, words, hole}
use Rattle.fluent_syntax.specs.declared.parser.piece.Piece as code
use Rattle.fluent_syntax.specs.declared.parser.piece.Piece.TheVariants as codes

abbrev pub piece_view : code.Piece → Piece
piece_view (codes.Line n) = line n
piece_view (codes.Words w) = words w
piece_view (codes.Placeable x) = hole (expression_view x)
