use Rattle.std.proofs.Common.{◌≡◌, [], ◌∷◌, None, sym}
use Rattle.fluent_syntax.specs.Layout.{line, words, hole}
use Rattle.fluent_syntax.specs.Expressions.{level}
use Rattle.fluent_syntax.specs.Inside.PieceView.{piece_view}
use Rattle.fluent_ast.specs.View.{expression_view}
use Rattle.fluent_syntax.proofs.Progress.{hole_here, hole_below, added, added_three}
use Rattle.fluent_syntax.proofs.parser.pieces.push_any_hole.Goals as goal

pub returns-in-Ok : goal.returns-in-Ok
returns-in-Ok g c = (
  hole (expression_view c.in-Ok.x),
  [],
  hole_here c.args.depth c.args.s.now c.in-Ok.rest.now (expression_view c.in-Ok.x) c.in-Ok.ensures,
  added piece_view _ _ _ c.in_ok-push-in-Ok.ensures.items,
)

pub returns : goal.returns
returns g c =
    let n = c.args.depth in
    let s = c.args.s.now in
    let none : (level n).braces s ≡ None = rw c.in-Err-Absent.field-0-is at c.in-Err-Absent.ensures in (
      line c.in-Some.ends,
      words c.indent-words.result.0 ∷ hole (expression_view c.in_ok-x.x) ∷ [],
      hole_below n s c.in-Some.line.now c.indent-words.result.1.now c.in_ok-x.rest.now c.in-Some.ends c.indent-words.result.0 (expression_view c.in_ok-x.x) none (sym c.in-Some.ensures) c.indent-words.ensures (c.requires.braces.reads c.args.alloc c.indent-words.result.1 _ c.in_ok-x.ensures),
      added_three piece_view _ _ _ _ _ _ _ c.in_ok-push.ensures.items c.in_ok-push-2.ensures.items c.in_ok-push-3.ensures.items,
    )
