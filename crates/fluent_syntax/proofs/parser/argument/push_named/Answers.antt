use Rattle.std.proofs.Common.{refl}
use Rattle.fluent_ast.specs.View.{named_view}
use Rattle.fluent_ast.specs.declared.ast.Expression.TheViews.{roll-NamedArgument}
use Rattle.fluent_syntax.specs.Expressions.{by_name}
use Rattle.fluent_syntax.proofs.Views.{view_named}
use Rattle.fluent_syntax.proofs.parser.argument.push_named.Goals as goal

pub returns : goal.returns
returns c = (
  by_name (named_view (roll-NamedArgument record { name = c.args.name; value = c.in-Some.value })),
  rw (← c.in-Some.ensures, view_named c.args.name c.in-Some.value) refl,
  c.in_ok-add.ensures,
)
