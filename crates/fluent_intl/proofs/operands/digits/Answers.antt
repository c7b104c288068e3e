use Rattle.std.proofs.Common.{arith, ◌-◌}
use Rattle.fluent_intl.proofs.DecimalPlaces.{ten_power_pos}
use Rattle.fluent_intl.proofs.operands.digits.Goals as goal

pub nonzero_div-result : goal.nonzero_div-result
nonzero_div-result c = omega (arith, c.pow.ensures, ten_power_pos (18 - c.args.count))
