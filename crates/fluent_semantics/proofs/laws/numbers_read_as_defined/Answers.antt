use Rattle.fluent_semantics.proofs.Readings.{reads_as_defined}
use Rattle.fluent_semantics.proofs.laws.numbers_read_as_defined.Goals as goal

pub returns : goal.returns
returns c = reads_as_defined
