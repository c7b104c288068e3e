use Rattle.std.proofs.Common.{[]}
use Rattle.fluent_semantics.specs.Walk.{application}
use Rattle.fluent_bundle.proofs.laws.limits_are_kept.Goals as goal

pub returns : goal.returns
returns c b args p = record {
  reaches_limit = c.meanings_agree.ensures.beyond b (application args) [] p b.limit;
  within = c.meanings_agree.ensures.within b (application args) [] p b.limit;
  beyond = c.meanings_agree.ensures.begins b (application args) [] p b.limit;
  bounded = c.work_is_bounded.ensures b (application args) [] p b.limit;
}
