use Rattle.fluent_clean.proofs.SetTerms.{substituted_same, run_same}
use Rattle.fluent_clean.proofs.laws.set_terms_miss_nothing.Goals as goal

pub returns : goal.returns
returns g c = record { substituted = substituted_same; budgeted = run_same }
