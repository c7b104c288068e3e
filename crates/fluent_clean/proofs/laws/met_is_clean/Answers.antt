use Rattle.fluent_clean.proofs.Cleaned.{met_is_clean}
use Rattle.fluent_clean.proofs.laws.met_is_clean.Goals as goal

pub returns : goal.returns
returns g c = met_is_clean
