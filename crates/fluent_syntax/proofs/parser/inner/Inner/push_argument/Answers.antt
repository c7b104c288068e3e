use Rattle.std.proofs.Common.{◌==◌, ◌≡◌, true, sym, ap, ◌∙◌}
use Rattle.fluent_text.specs.Parser.{first}
use Rattle.fluent_ast.specs.Tree.{message, no_attribute}
use Rattle.fluent_ast.specs.View.{name_view}
use Rattle.fluent_syntax.specs.Expressions.{level, positional, add}
use Rattle.fluent_syntax.proofs.Arguments.{nameless_at, message_before}
use Rattle.fluent_syntax.proofs.Progress.{is_equal}
use Rattle.fluent_syntax.proofs.Views.{view_message}
use Rattle.fluent_syntax.specs.Inside.Gathering.{gathered_view}
use Rattle.fluent_syntax.proofs.parser.inner.Inner.push_argument.Goals as goal

pub returns-in_default : goal.returns-in_default
returns-in_default g c =
    rw (nameless_at (level c.args.self.now.depth) c.args.s.now (sym c.in_default.ensures)) c.push_nameless.ensures

pub returns-then-byte_at-eq44 : goal.returns-then-byte_at-eq44
returns-then-byte_at-eq44 g c =
    let rest = c.in-Some.rest.now in
    let comma : (first rest == 44) ≡ true = is_equal (first rest) 44 (sym c.byte_at.ensures ∙ c.if-byte_at-eq44.true) in (
      positional (message (name_view c.in-Some.id) no_attribute),
      message_before c.args.self.now.depth c.args.s.now rest (name_view c.in-Some.id) (sym c.in-Some.ensures) comma,
      c.in_ok-add.ensures ∙ ap (λ x. add (gathered_view c.args.found.now) (positional x)) (view_message c.in-Some.id),
    )

pub returns : goal.returns
returns g c = c.push_named_or_reference.ensures c.args.s.now c.in-Some.ensures
