use Rattle.std.proofs.Common.{[], ◌∷◌, refl, rules, append-nil, append_assoc}
use Rattle.std.proofs.lemmas.List.{map-append}
use Rattle.fluent_syntax.specs.Layout.{lines}
use Rattle.fluent_syntax.specs.Inside.PieceView.{piece_view}
use Rattle.fluent_syntax.proofs.parser.layout.backwards.Goals as goal

pub pieces-init : goal.pieces-init
unfolding lines
pieces-init c = ([], search (rules, append-nil), search rules, refl)

pub pieces-preserved : goal.pieces-preserved
pieces-preserved c = (
  piece_view c.in-Some.piece ∷ c.pieces.invariant.0,
  search (rules, c.pieces.invariant.1, c.in-Some.ensures.items, map-append, append_assoc),
  c.in_ok-after_line.ensures.out c.pieces.invariant.0 c.pieces.invariant.2 c.pieces.invariant.3,
  c.in_ok-after_line.ensures.line c.pieces.invariant.0,
)
