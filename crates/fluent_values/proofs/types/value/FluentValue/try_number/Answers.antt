use Rattle.fluent_values.specs.Facts.Reading.{number_read, text_kept}
use Rattle.fluent_values.proofs.types.value.FluentValue.try_number.Goals as goal

pub returns-in-Ok : goal.returns-in-Ok
returns-in-Ok g c = number_read c.numbers_read_as_defined.ensures c.args.text.now _ c.in-Ok.ensures

pub returns-in-Err : goal.returns-in-Err
returns-in-Err g c = text_kept c.numbers_read_as_defined.ensures c.args.text.now c.in-Err.ensures
