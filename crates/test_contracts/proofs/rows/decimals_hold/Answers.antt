use Rattle.std.proofs.Common.{[], ◌∷◌, ◌*◌, ◌/◌, ◌^◌, refl, rules, inr, arith}
use Rattle.std.specs.Fmt.{digits}
use Rattle.fluent_intl.specs.Decimal.{decimal_text, significant_places}
use Rattle.test_contracts.proofs.rows.decimals_hold.Goals as goal

pub returns-clause-five : goal.returns-clause-five
unfolding decimal_text significant_places digits
returns-clause-five c = refl

pub returns-clause-half : goal.returns-clause-half
unfolding decimal_text significant_places digits
returns-clause-half c = refl

pub returns-clause-quarter : goal.returns-clause-quarter
unfolding decimal_text significant_places digits
returns-clause-quarter c = refl

pub returns-clause-quarter_alone : goal.returns-clause-quarter_alone
unfolding decimal_text significant_places digits
returns-clause-quarter_alone c = refl

pub returns-clause-capped : goal.returns-clause-capped
unfolding decimal_text significant_places digits
returns-clause-capped c = refl

pub returns-clause-below : goal.returns-clause-below
unfolding decimal_text significant_places digits
returns-clause-below c = refl

pub returns-clause-read_plus : goal.returns-clause-read_plus
returns-clause-read_plus c = (5 * 10 ^ 18, inr (53 ∷ [], [], refl, search rules, tt, omega arith, omega arith, omega arith, refl, refl), refl)

pub returns-clause-read_half : goal.returns-clause-read_half
returns-clause-read_half c = (10 ^ 18 / 2, inr ([], 53 ∷ 48 ∷ [], refl, tt, search rules, omega arith, omega arith, omega arith, refl, refl), refl)
