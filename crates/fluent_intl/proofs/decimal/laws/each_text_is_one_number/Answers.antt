use Rattle.fluent_intl.proofs.DecimalReading.{one_reading}
use Rattle.fluent_intl.proofs.decimal.laws.each_text_is_one_number.Goals as goal

pub returns : goal.returns
returns c = one_reading
