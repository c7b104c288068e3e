use Rattle.std.proofs.Common.{rules, arith}
use Rattle.fluent_intl.proofs.DecimalDigits.{not_digits, too_large, all_more, value_more}
use Rattle.fluent_intl.proofs.decimal.read.value_of.Goals as goal

pub returns-then-not-is_ascii_digit : goal.returns-then-not-is_ascii_digit
returns-then-not-is_ascii_digit c = not_digits c.args.digits.now c.loop-digit.digit-index c.loop-digit-test.true (search rules)

pub returns-then-grown : goal.returns-then-grown
returns-then-grown c = too_large c.args.digits.now c.loop-digit.digit-index c.loop-digit.value c.loop-digit-test.true (search rules) c.loop-digit.invariant.1 (omega (arith, c.if-grown.true))

pub loop-digit-preserved : goal.loop-digit-preserved
loop-digit-preserved c = (
  all_more c.args.digits.now c.loop-digit.digit-index c.loop-digit-test.true c.loop-digit.invariant.0 (search rules),
  omega (arith, value_more c.args.digits.now c.loop-digit.digit-index c.loop-digit-test.true (search rules), c.loop-digit.invariant.1),
)
