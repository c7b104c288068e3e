use Rattle.std.proofs.Common.{◌≡◌, ◌-◌, suc, Some, subst, arith}
use Rattle.fluent_syntax.specs.Expressions.{level}
use Rattle.fluent_ast.specs.View.{expression_view}
use Rattle.fluent_syntax.proofs.parser.first_line.placeable.Goals as goal

pub returns : goal.returns
returns g c =
    let x = expression_view c.in-Some.read.0 in
    let deep : suc (c.args.depth - 1) ≡ c.args.depth = omega arith in
    subst (λ n. (level n).braces c.args.s.now ≡ Some (x, c.in-Some.read.1.now)) deep (c.in-Some.ensures (c.args.depth - 1))
