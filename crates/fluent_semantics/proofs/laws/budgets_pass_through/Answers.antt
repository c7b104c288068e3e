use Rattle.fluent_semantics.proofs.Budgets.{run_step, run_less, run_limit_reached}
use Rattle.fluent_semantics.proofs.Worked.{work_is_run}
use Rattle.fluent_semantics.proofs.Counted.{work_step}
use Rattle.fluent_semantics.proofs.laws.budgets_pass_through.Goals as goal

pub returns : goal.returns
returns c s = record { runs = run_step; counts = record { is_the_run = work_is_run; counts = work_step }; never_adds = record { less = run_less; stays = run_limit_reached } }
