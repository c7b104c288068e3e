use Rattle.std.proofs.Common.{◌-◌, ◌++◌, arith, rules, sym, ap, ◌∙◌, length, map}
use Rattle.std.specs.List.{range_with_len}
use Rattle.fluent_intl.specs.Decimal.{place_digit}
use Rattle.fluent_intl.proofs.DecimalPlaces.{ten_power_pos, last_place_onto, quotient_before}
use Rattle.fluent_intl.proofs.decimal.backward.DecimalText.put_places.Goals as goal

pub nonzero_div-rest : goal.nonzero_div-rest
nonzero_div-rest c = search (rules, ten_power_pos)

pub loop-left-preserved : goal.loop-left-preserved
loop-left-preserved c =
    let i = c.loop-left.invariant in
    let some = c.loop-left-test.true in (
      omega (arith, i.0),
      omega (arith, i.1, some, ap length c.put.ensures),
      quotient_before c.args.fraction c.loop-left.left c.loop-left.rest (omega (arith, some)) i.0 i.2,
      ap (λ s. map (place_digit c.args.fraction) (range_with_len 1 (c.loop-left.left - 1)) ++ s) c.put.ensures
          ∙ sym (last_place_onto c.args.fraction c.loop-left.left c.loop-left.rest c.loop-left.self (omega (arith, some)) i.2) ∙ i.3,
    )
