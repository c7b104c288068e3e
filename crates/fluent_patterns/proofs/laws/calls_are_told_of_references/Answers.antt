use Rattle.fluent_patterns.proofs.CallsNumbered.{as_many}
use Rattle.fluent_patterns.proofs.laws.calls_are_told_of_references.Goals as goal

pub returns : goal.returns
returns c = as_many
