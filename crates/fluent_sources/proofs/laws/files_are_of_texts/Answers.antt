use Rattle.fluent_sources.specs.Reading.{junk_read}
use Rattle.fluent_sources.proofs.ReadTexts.{of_texts}
use Rattle.fluent_sources.proofs.laws.files_are_of_texts.Goals as goal

pub returns : goal.returns
returns c = λ reads sources number are. of_texts number sources.resources.items (junk_read sources) reads are.sources_are are.entries are.junk
