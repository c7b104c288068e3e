use Rattle.fluent_semantics.proofs.Quiet.{marks_balanced}
use Rattle.fluent_semantics.proofs.laws.marks_are_balanced.Goals as goal

pub returns : goal.returns
returns c s = marks_balanced
