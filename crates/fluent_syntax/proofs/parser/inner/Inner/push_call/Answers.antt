use Rattle.std.proofs.Common.{refl}
use Rattle.fluent_ast.specs.View.{inline_view}
use Rattle.fluent_ast.specs.declared.ast.InlineExpression.TheVariants.{FunctionReference}
use Rattle.fluent_syntax.specs.Expressions.{positional}
use Rattle.fluent_syntax.proofs.Views.{view_function}
use Rattle.fluent_syntax.proofs.parser.inner.Inner.push_call.Goals as goal

pub returns : goal.returns
returns g c =
    let boxed = c.in_ok-arguments-2.arguments in (
      positional (inline_view (FunctionReference c.args.id boxed)),
      rw (c.requires.brackets.reads c.args.self.now.alloc c.args.s _ c.in_ok-arguments.ensures, view_function c.args.id boxed, c.in_ok-arguments-2.ensures.ok) refl,
      c.in_ok-add.ensures,
    )
