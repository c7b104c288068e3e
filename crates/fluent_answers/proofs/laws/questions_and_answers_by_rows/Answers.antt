use Rattle.std.proofs.Common.{refl}
use Rattle.std.specs.Fmt.{digits}
use Rattle.fluent_intl.specs.Decimal.{decimal_text, significant_places}
use Rattle.fluent_answers.proofs.laws.questions_and_answers_by_rows.Goals as goal

pub returns-clause-written : goal.returns-clause-written
unfolding decimal_text significant_places digits
returns-clause-written c = record { plain = refl; no_minimum = refl; empty_first = refl; places = refl; money = refl; words = refl }

pub returns-clause-questions : goal.returns-clause-questions
unfolding decimal_text significant_places digits
returns-clause-questions c = record { function = refl; nothing = refl; formatter = refl; transform = refl }
