use Rattle.std.proofs.Common.{◌≡◌}
use Rattle.fluent_ast.specs.View.{expression_view}
use Rattle.fluent_resolver.specs.Inside.Parts as parts
use Rattle.fluent_resolver.proofs.expression.innermost.Given as goal

abbrev pub invariant-loop-inner : goal.invariant-loop-inner
invariant-loop-inner l = parts.innermost (expression_view l.inner) ≡ parts.innermost (expression_view l.fn.expression)
