use Rattle.std.proofs.Common.{refl}
use Rattle.fluent_plural_rules.specs.Inside.Rows.{rows}
use Rattle.fluent_plural_rules.proofs.cldr.rows.Goals as goal

pub returns-clause-are : goal.returns-clause-are
unfolding rows
returns-clause-are c = refl

pub returns-clause-order : goal.returns-clause-order
returns-clause-order c = refl
