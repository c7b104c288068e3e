use Rattle.fluent_check.proofs.LargeShown.{all_shown}
use Rattle.fluent_check.proofs.laws.large_errors_are_shown.Goals as goal

pub returns : goal.returns
returns c = all_shown
