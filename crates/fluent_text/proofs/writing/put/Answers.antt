use Rattle.fluent_text.proofs.Prefix.{prefix_grows}
use Rattle.std.proofs.Common.{rules}
use Rattle.fluent_text.proofs.writing.put.Goals as goal

pub loop-rest-preserved : goal.loop-rest-preserved
loop-rest-preserved g c = (prefix_grows _ _ _ _ _ _ c.in-Ok.n c.loop-rest.invariant.0.1 c.loop-rest.invariant.0.2 c.in-Ok.ensures.bytes, search rules, search rules)
