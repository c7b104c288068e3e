use Rattle.std.proofs.Common.{Some, sym, ap, ◌∙◌, subst}
use Rattle.fluent_syntax.specs.Inside.Progress.{Reached}
use Rattle.fluent_syntax.specs.Inside.PieceView.{piece_view}
use Rattle.fluent_syntax.specs.Inside.Reading.{all}
use Rattle.fluent_ast.specs.Tree.{pattern_of}
use Rattle.fluent_syntax.proofs.Progress.{pattern_read}
use Rattle.fluent_syntax.proofs.Views.{view_pattern}
use Rattle.fluent_syntax.proofs.parser.pattern.many_lines.Goals as goal

pub returns : goal.returns
returns g c = λ whole h.
    let n = c.args.depth in
    let rest = c.in_ok-pieces.rest.now in
    let reached = subst (λ ps. Reached n whole ps c.args.s.now) (sym c.in_ok-found.ensures) h in
    pattern_read n whole rest (all piece_view c.in_ok-pieces.pieces) (c.in_ok-pieces.ensures whole reached)
    ∙ ap (λ p. Some (p, rest)) (ap pattern_of (sym c.in_ok-elements.ensures) ∙ sym (view_pattern c.in_ok-elements.elements))
