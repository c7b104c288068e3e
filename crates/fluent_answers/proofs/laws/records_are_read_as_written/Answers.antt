use Rattle.fluent_answers.proofs.Written.{reads_written}
use Rattle.fluent_answers.proofs.laws.records_are_read_as_written.Goals as goal

pub returns : goal.returns
returns c = reads_written
