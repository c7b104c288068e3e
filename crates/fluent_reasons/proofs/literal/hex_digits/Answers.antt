use Rattle.std.proofs.Common.{◌-◌, ◌+◌, ◌∙◌, sym, arith}
use Rattle.fluent_syntax.specs.Facts.Literals.{hex_more}
use Rattle.fluent_reasons.proofs.literal.hex_digits.Goals as goal

pub digits-preserved : goal.digits-preserved
digits-preserved c =
    let n = c.args.count in
    c.digits.invariant ∙ hex_more (n - c.digits._turn) (n - (c.digits._turn + 1)) c.digits.rest.now c.in_ok-rest.rest.now (omega arith) (sym c.in_ok-rest.ensures)
