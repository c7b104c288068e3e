use Rattle.fluent_semantics.proofs.Whole.{text_whole}
use Rattle.fluent_semantics.proofs.laws.texts_are_whole.Goals as goal

pub returns : goal.returns
returns c = text_whole
