use Rattle.fluent_semantics.proofs.Beside.{tracked_is, maybe_tracked_is, arguments_of_is, written_pattern_is}
use Rattle.fluent_semantics.proofs.laws.calls_pass_through.Goals as goal

pub returns : goal.returns
returns c s = record { reference = tracked_is; placeable = maybe_tracked_is; arguments = arguments_of_is; pattern = written_pattern_is }
