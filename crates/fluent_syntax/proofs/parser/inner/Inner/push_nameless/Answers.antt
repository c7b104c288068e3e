use Rattle.std.proofs.Common.{refl}
use Rattle.fluent_ast.specs.View.{inline_view}
use Rattle.fluent_syntax.specs.Expressions.{positional}
use Rattle.fluent_syntax.proofs.parser.inner.Inner.push_nameless.Goals as goal

pub returns : goal.returns
returns g c = (
  positional (inline_view c.in_ok-x.x),
  rw c.in_ok-x.ensures refl,
  c.in_ok-add.ensures,
)
