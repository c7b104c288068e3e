use Rattle.std.proofs.Common.{◌≡◌, ◌+◌, ◌/◌, ◌%◌, ◌∷◌, ◌++◌, arith, rules, sym, ap, ◌∙◌, length}
use Rattle.std.specs.Fmt.{decimal}
use Rattle.std.proofs.lemmas.Fmt.{decimal_nonempty}
use Rattle.fluent_intl.proofs.DecimalWhole.{decimal_step_onto, length-decimal_step, decimal_digit_onto}
use Rattle.fluent_intl.proofs.decimal.backward.DecimalText.put_whole.Goals as goal

pub put-requires-clause-room : goal.put-requires-clause-room
put-requires-clause-room c = omega (arith, c.loop-rest.invariant.1, decimal_nonempty c.loop-rest.rest (search rules))

pub loop-rest-preserved : goal.loop-rest-preserved
loop-rest-preserved c =
    let low = c.loop-rest-test.true in
    let put : c.put.new.self ≡ (48 + c.loop-rest.rest % 10) ∷ c.loop-rest.self = c.put.ensures in (
      ap (λ s. decimal (c.loop-rest.rest / 10) ++ s) put ∙ sym (decimal_step_onto c.loop-rest.rest c.loop-rest.self (search rules) (search rules)) ∙ c.loop-rest.invariant.0,
      omega (arith, ap length put, length-decimal_step c.loop-rest.rest (search rules) (search rules), c.loop-rest.invariant.1),
    )

pub put-requires-2-clause-room : goal.put-requires-2-clause-room
put-requires-2-clause-room c = omega (arith, c.loop-rest.invariant.1, decimal_nonempty c.loop-rest.rest (search rules))

pub returns : goal.returns
returns c = c.put-2.ensures ∙ sym (decimal_digit_onto c.loop-rest.rest c.loop-rest.self (search rules)) ∙ c.loop-rest.invariant.0
