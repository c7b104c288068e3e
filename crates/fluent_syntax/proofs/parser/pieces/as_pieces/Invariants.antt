use Rattle.std.proofs.Common.{◌≡◌, map}
use Rattle.fluent_syntax.specs.Inside.PieceView.{piece_view}
use Rattle.fluent_syntax.specs.Inside.Progress.{piece_of}
use Rattle.fluent_syntax.specs.Inside.Reading.{all}
use Rattle.fluent_ast.specs.View.{element_view}
use Rattle.fluent_syntax.proofs.parser.pieces.as_pieces.Given as goal

abbrev pub invariant-elements : goal.invariant-elements
invariant-elements l = all piece_view l.pieces ≡ map piece_of (map element_view l.yielded)
