use Rattle.fluent_semantics.specs.Meaning.{left}
use Rattle.fluent_semantics.proofs.Worked.{work_is_run, work_bounded, opened_at_most, entered_at_most}
use Rattle.fluent_semantics.proofs.laws.work_is_bounded.Goals as goal

pub returns : goal.returns
returns c s b env path p limit = record {
  is_the_run = work_is_run b env path p (left limit);
  opened = opened_at_most b env path p limit;
  longest = (work_bounded b env path p limit).longest;
  entered = entered_at_most b env path p limit;
}
