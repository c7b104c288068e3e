use Rattle.fluent_semantics.proofs.Whole.{text_whole}
use Rattle.fluent_semantics.proofs.laws.is_a_whole_text.Goals as goal

pub returns : goal.returns
returns c = text_whole c.args.text.now c.utf8.text
