use Rattle.std.proofs.Common.{◌≡◌, ◌-◌, suc, [], Some, subst, arith}
use Rattle.fluent_syntax.specs.Expressions.{level}
use Rattle.fluent_syntax.specs.Layout.{hole}
use Rattle.fluent_syntax.specs.Inside.PieceView.{piece_view}
use Rattle.fluent_ast.specs.View.{expression_view}
use Rattle.fluent_syntax.proofs.Progress.{hole_here, added}
use Rattle.fluent_syntax.proofs.parser.pieces.push_hole.Goals as goal

pub returns : goal.returns
returns g c =
    let x = expression_view c.in-Some.x in
    let s = c.args.s.now in
    let rest = c.in-Some.rest.now in
    let deep : suc (c.args.depth - 1) ≡ c.args.depth = omega arith in
    let read = subst (λ n. (level n).braces s ≡ Some (x, rest)) deep (c.in-Some.ensures (c.args.depth - 1)) in (
      hole x,
      [],
      hole_here c.args.depth s rest x read,
      added piece_view _ _ _ c.in_ok-push.ensures.items,
    )
