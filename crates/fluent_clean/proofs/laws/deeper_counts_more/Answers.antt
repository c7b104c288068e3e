use Rattle.fluent_clean.proofs.Deepened.{deepened}
use Rattle.fluent_clean.proofs.laws.deeper_counts_more.Goals as goal

pub returns : goal.returns
returns g c = deepened
