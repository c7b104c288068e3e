use Rattle.fluent_clean.proofs.Grounded.{unclean}
use Rattle.fluent_clean.proofs.laws.stuck_are_unclean.Goals as goal

pub returns : goal.returns
returns g c named ps stuck p among h = unclean named ps stuck h among
