use Rattle.std.proofs.Common.{refl, ◌%◌, arith, rules, sym, ap, ◌∙◌}
use Rattle.fluent_intl.specs.Decimal.{significant_places}
use Rattle.fluent_intl.proofs.DecimalPlaces.{one_place_fewer, significant_is}
use Rattle.fluent_intl.proofs.decimal.text.significant_places.Goals as goal

pub loop-places-preserved : goal.loop-places-preserved
loop-places-preserved c =
    let i = c.loop-places.invariant in
    one_place_fewer c.args.fraction c.loop-places.places c.loop-places.rest (omega (arith, c.loop-places-test.true)) i.0 i.1 i.2 (search rules)

pub returns-else-rest-eq0-clause-value : goal.returns-else-rest-eq0-clause-value
returns-else-rest-eq0-clause-value c =
    let i = c.loop-places.invariant in
    sym (significant_is c.args.fraction c.loop-places.places i.0 i.2 (λ _ zero_digit. search (rules, ap (λ n. n % 10) i.1 ∙ zero_digit)))

pub returns-after-loop-places-clause-value : goal.returns-after-loop-places-clause-value
returns-after-loop-places-clause-value c =
    let i = c.loop-places.invariant in
    sym (significant_is c.args.fraction c.loop-places.places i.0 i.2 (λ some _. omega (arith, some, c.loop-places-test.false)))

pub returns-then-fraction-eq0-clause-value : goal.returns-then-fraction-eq0-clause-value
unfolding significant_places
returns-then-fraction-eq0-clause-value c = rw c.if-fraction-eq0.true refl
