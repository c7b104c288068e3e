use Rattle.std.proofs.Common.{◌<◌, ◌∙◌, sym, length, arith, rules}
use Rattle.fluent_text.proofs.Hexadecimal.{hex_more, one_digit_more, six_digits}
use Rattle.fluent_text.proofs.unicode.hex_number.Goals as goal

pub overflow_mul-number : goal.overflow_mul-number
overflow_mul-number c = let most = six_digits c.digits._turn c.digits.number (omega arith) c.digits.invariant.2 in omega arith

pub overflow_add-number : goal.overflow_add-number
overflow_add-number c =
    let most = six_digits c.digits._turn c.digits.number (omega arith) c.digits.invariant.2 in
    let less : c.in-Some.digit < 16 = c.in-Some.ensures.digit in
    omega arith

pub digits-preserved : goal.digits-preserved
digits-preserved c =
    let shorter : length c.in-Some.after.now < length c.digits.rest.now = c.in-Some.ensures.shorter in
    (search rules, c.digits.invariant.1 ∙ hex_more _ _ c.digits.number c.digits.rest.now _ _ (omega arith) (sym c.in-Some.ensures.gives), one_digit_more _ _ _ c.digits.invariant.2 c.in-Some.ensures.digit, omega arith)
