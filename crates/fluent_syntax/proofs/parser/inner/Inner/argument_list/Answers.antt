use Rattle.std.proofs.Common.{◌-◌, ◌+◌, ◌∙◌, sym, ap, length, arith, rules}
use Rattle.fluent_syntax.specs.Expressions.{level}
use Rattle.fluent_syntax.specs.Inside.Gathering.{gathered_view}
use Rattle.fluent_syntax.proofs.Gathers.{gathers, gathers-more, gathers-none, gathers-last, gathers-empty, gathers-done, starts}
use Rattle.fluent_syntax.proofs.parser.inner.Inner.argument_list.Goals as goal

pub arguments-preserved : goal.arguments-preserved
arguments-preserved g c =
    let n = length c.args.s.now in
    let l = level c.args.self.now.depth in
    let j = n - (c.arguments._turn + 1) in
    let past = c.in-Some.past.now in
    let read = c.in-Ok.ensures in (
      search rules,
      c.arguments.invariant.1
          ∙ gathers-more l (n - c.arguments._turn) j (gathered_view c.arguments.found) c.arguments.rest.now read.0 c.in-Ok.after.now past (omega arith) read.1 (sym c.in-Some.ensures) (omega arith)
          ∙ ap (λ b. gathers l j b past) (sym read.2),
    )

pub arguments-init : goal.arguments-init
arguments-init g c = grind (arith, starts)

pub returns-in_default : goal.returns-in_default
returns-in_default g c = grind (arith, gathers-last)

pub returns-then-past-rest : goal.returns-then-past-rest
returns-then-past-rest g c = grind (arith, gathers-empty)

pub returns-in-Err-Absent : goal.returns-in-Err-Absent
returns-in-Err-Absent g c = grind (arith, gathers-none)

pub returns : goal.returns
returns g c = grind (arith, gathers-done)
