use Rattle.std.proofs.Common.{◌∷◌, [], ◌++◌, map, sym, ap, ◌∙◌}
use Rattle.fluent_syntax.specs.Inside.PieceView.{piece_view}
use Rattle.fluent_syntax.specs.Inside.Progress.{piece_of}
use Rattle.fluent_ast.specs.View.{element_view}
use Rattle.fluent_syntax.proofs.Progress.{added, as_pieces-next}
use Rattle.fluent_syntax.proofs.parser.pieces.as_pieces.Goals as goal

pub elements-preserved : goal.elements-preserved
elements-preserved c =
    added piece_view _ _ _ c.in_ok-push.ensures.items
    ∙ (ap (λ w. w ++ piece_view c.as_piece.result ∷ []) c.elements.invariant
    ∙ (ap (λ p. map piece_of (map element_view c.elements.yielded) ++ p ∷ []) c.as_piece.ensures
    ∙ sym (as_pieces-next element_view c.elements.yielded c.in-Some.element)))
