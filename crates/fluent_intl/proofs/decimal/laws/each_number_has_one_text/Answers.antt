use Rattle.fluent_intl.proofs.DecimalTexts.{one_text}
use Rattle.fluent_intl.proofs.decimal.laws.each_number_has_one_text.Goals as goal

pub returns : goal.returns
returns c = one_text
