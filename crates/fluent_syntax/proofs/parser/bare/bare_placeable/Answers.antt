use Rattle.std.proofs.Common.{Some, sym, ap, ◌∙◌}
use Rattle.fluent_ast.specs.View.{inline_view}
use Rattle.fluent_syntax.proofs.BareReferences.{placeable_at}
use Rattle.fluent_syntax.proofs.Views.{view_inline}
use Rattle.fluent_syntax.proofs.parser.bare.bare_placeable.Goals as goal

pub returns : goal.returns
returns c = λ n.
    let end = c.in_ok-end.end.now in
    placeable_at n c.args.s.now c.in_ok-eat.field-0.now c.after_blank-inside.result.now c.in_ok-x.rest.now c.after_blank.result.now end (inline_view c.in_ok-x.x)
    (sym c.in_ok-eat.ensures.gives) c.after_blank-inside.ensures c.in_ok-x.ensures c.after_blank.ensures (sym c.in_ok-end.ensures.gives)
    ∙ ap (λ x. Some (x, end)) (sym (view_inline c.in_ok-x.x))
