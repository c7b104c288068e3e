use Rattle.std.proofs.Common.{◌≡◌, ℕ, List, ◌∷◌, ◌++◌, None, Result, Ok, Err, Vec, Global, sym, ap, ◌∙◌, subst}
use Rattle.std.specs.Borrow.{Bor}
use Rattle.fluent_text.specs.Parser.{Read, otherwise}
use Rattle.fluent_syntax.specs.Layout as spec
use Rattle.fluent_syntax.specs.declared.parser.piece.Piece.{Piece}
use Rattle.fluent_syntax.specs.declared.parser.stop.Stop.{Stop}
use Rattle.fluent_syntax.specs.declared.parser.stop.Stop.TheVariants.{Absent, Memory}
use Rattle.fluent_syntax.specs.Inside.Progress.{PushesPieces, text_pieces, hole_pieces}
use Rattle.fluent_syntax.specs.Expressions.{level}
use Rattle.fluent_syntax.specs.Pieces.{pattern_element}
use Rattle.fluent_syntax.specs.Inside.PieceView.{piece_view}
use Rattle.fluent_syntax.specs.Inside.Reading.{all}
use Rattle.fluent_syntax.proofs.Progress.{element_is}
use Rattle.fluent_syntax.proofs.parser.pieces.push_element.Goals as goal

-- what was read after pieces of the same content
pushes-after : (r : Result (Bor (List ℕ)) Stop) (old mid new : Vec Piece Global) (q : Read (List spec.Piece)) → all piece_view mid ≡ all piece_view old
    → PushesPieces r mid new q → PushesPieces r old new q
pushes-after (Ok rest) old mid new q e h = (h.0, h.1, h.2, h.3 ∙ ap (λ ps. ps ++ h.0 ∷ h.1) e)
pushes-after (Err Absent) old mid new q e h = (h.0, h.1 ∙ e)
pushes-after (Err Memory) old mid new q e h = tt

pub returns-in-Ok : goal.returns-in-Ok
returns-in-Ok g c = (
  c.in-Ok.ensures.0,
  c.in-Ok.ensures.1,
  element_is c.args.depth c.args.s.now ∙ ap (λ r. otherwise r (hole_pieces c.args.depth) c.args.s.now) c.in-Ok.ensures.2,
  c.in-Ok.ensures.3,
)

pub returns-in-Err-Absent : goal.returns-in-Err-Absent
returns-in-Err-Absent g c =
    let n = c.args.depth in
    let s = c.args.s.now in
    let old = c.args.found.now in
    let mid = c.push_words.new.found in
    let new = c.push_hole.new.found in
    let at : (text_pieces s ≡ None) × (all piece_view mid ≡ all piece_view old) = subst (λ e. PushesPieces (Err e) old mid (text_pieces s)) c.in-Err-Absent.field-0-is c.in-Err-Absent.ensures in
    let rule : hole_pieces n s ≡ pattern_element (level n).braces s = sym (element_is n s ∙ ap (λ r. otherwise r (hole_pieces n) s) at.0) in
    subst (λ r. PushesPieces c.push_hole.result old new r) rule (pushes-after c.push_hole.result old mid new (hole_pieces n s) at.1 c.push_hole.ensures)
