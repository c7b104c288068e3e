use Rattle.std.proofs.Common.{refl}
use Rattle.fluent_ast.specs.View.{inline_view}
use Rattle.fluent_ast.specs.declared.ast.InlineExpression.TheVariants.{MessageReference}
use Rattle.fluent_syntax.specs.Expressions.{positional}
use Rattle.fluent_syntax.proofs.Views.{view_reference}
use Rattle.fluent_syntax.proofs.parser.argument.push_message.Goals as goal

pub returns : goal.returns
returns c = (
  positional (inline_view (MessageReference c.args.id c.attribute_access.result.0)),
  rw (c.attribute_access.ensures, view_reference c.args.id c.attribute_access.result.0) refl,
  c.in_ok-add.ensures,
)
