use Rattle.std.proofs.Common.{sym, subst}
use Rattle.fluent_ast.specs.Tree.{placeable}
use Rattle.fluent_ast.specs.View.{element_view, expression_view}
use Rattle.fluent_syntax.specs.Layout.{lines}
use Rattle.fluent_syntax.specs.Inside.Backwards.{PrependsPiece}
use Rattle.fluent_syntax.specs.Inside.PieceView.{piece_view}
use Rattle.fluent_syntax.proofs.Ends.{pushed_prefix}
use Rattle.fluent_syntax.proofs.Views.{view_placeable}
use Rattle.fluent_syntax.proofs.parser.layout.push_piece.Goals as goal

pub returns-in_ok-push_feeds-in-Line-clause-out : goal.returns-in_ok-push_feeds-in-Line-clause-out
unfolding lines
returns-in_ok-push_feeds-in-Line-clause-out c =
    subst (λ p. PrependsPiece c.args.common c.args.after_line c.args.out.now c.push_feeds.new.out (piece_view p)) (sym c.in-Line.is)
    (λ done before line. c.in_ok-push_feeds-in-Line.ensures (lines c.args.common done) before)

pub returns-in_ok-push_words-in-Words-clause-out : goal.returns-in_ok-push_words-in-Words-clause-out
returns-in_ok-push_words-in-Words-clause-out c =
    subst (λ p. PrependsPiece c.args.common c.args.after_line c.args.out.now c.push_words.new.out (piece_view p)) (sym c.in-Words.is) c.in_ok-push_words-in-Words.ensures

pub returns-in_ok-push-in-Placeable-clause-out : goal.returns-in_ok-push-in-Placeable-clause-out
unfolding lines
returns-in_ok-push-in-Placeable-clause-out c =
    let x = c.in-Placeable.expression in
    subst (λ p. PrependsPiece c.args.common c.args.after_line c.args.out.now c.push.new.list (piece_view p)) (sym c.in-Placeable.is)
    (λ done before line. pushed_prefix element_view _ _ _ (placeable (expression_view x)) (lines c.args.common done) before c.in_ok-push-in-Placeable.ensures.items (view_placeable x))
