use Rattle.fluent_patterns.proofs.KeysRead.{number_read, text_read}
use Rattle.fluent_patterns.proofs.sense.number_sense.Goals as goal

pub returns-in-Ok : goal.returns-in-Ok
returns-in-Ok c = number_read c.numbers_read_as_defined.ensures c.args.value.now _ _ _ _ _ c.in-Ok.ensures c.is_negative.ensures c.whole.ensures c.fraction.ensures

pub returns-in-Err : goal.returns-in-Err
returns-in-Err c = text_read c.numbers_read_as_defined.ensures c.args.value.now c.in-Err.ensures
