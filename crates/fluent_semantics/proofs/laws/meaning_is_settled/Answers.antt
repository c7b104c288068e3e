use Rattle.fluent_semantics.proofs.Deeper.{settled}
use Rattle.fluent_semantics.proofs.laws.meaning_is_settled.Goals as goal

pub returns : goal.returns
returns c s = settled
