use Rattle.std.proofs.Common.{ℕ, List, length}
use denote.Text.{Utf8}
use denote.Shadow.{shadow}
use Rattle.fluent_syntax.specs.Inside.PieceView.{piece_view}
use Rattle.fluent_syntax.specs.Inside.Progress.{Reached}
use Rattle.fluent_syntax.specs.Inside.Reading.{all}
use Rattle.fluent_syntax.proofs.parser.pieces.more_pieces.Given as goal

abbrev pub invariant-pieces : goal.invariant-pieces
invariant-pieces g l = record {
  utf8 : shadow (Utf8 l.rest);
  reached : (whole : List ℕ) → Reached l.depth whole (all piece_view l.fn.found) l.fn.s → Reached l.depth whole (all piece_view l.found) l.rest;
}

abbrev pub decreases-pieces : goal.decreases-pieces
decreases-pieces g l = length l.rest
