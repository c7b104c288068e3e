use Rattle.std.proofs.Common.{◌≡◌, drop, map}
use Rattle.fluent_syntax.specs.Layout.{smaller, smallest_indent}
use Rattle.fluent_syntax.specs.Inside.PieceView.{piece_view}
use Rattle.fluent_syntax.proofs.parser.layout.common_indent.Given as goal

abbrev pub invariant-pieces : goal.invariant-pieces
invariant-pieces l = smallest_indent (map piece_view l.pieces) ≡ smaller l.least (smallest_indent (map piece_view (drop l.piece-index l.pieces)))
