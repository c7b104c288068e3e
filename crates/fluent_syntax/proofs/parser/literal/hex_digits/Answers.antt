use Rattle.std.proofs.Common.{◌-◌, ◌+◌, ◌∙◌, sym, arith, rules}
use Rattle.fluent_syntax.specs.Facts.Literals.{hex_more}
use Rattle.fluent_syntax.proofs.parser.literal.hex_digits.Goals as goal

pub digits-preserved : goal.digits-preserved
digits-preserved c =
    let n = c.args.count in
    (search rules, c.digits.invariant.1 ∙ hex_more (n - c.digits._turn) (n - (c.digits._turn + 1)) c.digits.rest.now c.in_ok-rest.rest.now (omega arith) (sym c.in_ok-rest.ensures))
