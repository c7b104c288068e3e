use Rattle.fluent_semantics.proofs.Limits.{reaches_limit_beyond, same_within, limit_begins_both}
use Rattle.fluent_semantics.proofs.laws.meanings_agree.Goals as goal

pub returns : goal.returns
returns c s = record { beyond = reaches_limit_beyond; within = same_within; begins = limit_begins_both }
