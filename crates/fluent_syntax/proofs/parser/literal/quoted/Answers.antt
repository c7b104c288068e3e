use Rattle.std.proofs.Common.{◌-◌, ◌+◌, ◌∙◌, sym, length, arith, rules}
use Rattle.fluent_text.specs.Parser.{one_more}
use Rattle.fluent_syntax.specs.Expressions.{quoted_turn}
use Rattle.fluent_text.specs.Facts.Turns.{more}
use Rattle.fluent_syntax.proofs.parser.literal.quoted.Goals as goal

pub quoted-preserved : goal.quoted-preserved
quoted-preserved c =
    let n = length c.args.s.now in
    let step = more one_more quoted_turn (n - c.quoted._turn) (n - (c.quoted._turn + 1)) c.quoted.count c.quoted.rest.now _ c.in-Some.next.now (omega arith) (sym c.in-Some.ensures) (omega arith) in
    (search rules, c.quoted.invariant.1 ∙ step, omega arith)
