use Rattle.fluent_bundle.proofs.Events.{are_run}
use Rattle.fluent_bundle.proofs.laws.events_are_the_run.Goals as goal

pub returns : goal.returns
returns c = are_run c.events_are_the_run.ensures.events c.calls_are_walks.ensures
