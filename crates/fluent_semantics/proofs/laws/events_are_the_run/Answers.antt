use Rattle.fluent_semantics.proofs.AheadAlike.{comes_step}
use Rattle.fluent_semantics.proofs.EventsRun.{events_are_the_run}
use Rattle.fluent_semantics.proofs.laws.events_are_the_run.Goals as goal

pub returns : goal.returns
returns c s = record { by_itself = comes_step; events = events_are_the_run }
