use Rattle.fluent_patterns.proofs.Inserted.{once_more}
use Rattle.fluent_patterns.proofs.names.once.Goals as goal

pub loop-name-preserved : goal.loop-name-preserved
loop-name-preserved c = once_more c.args.names.now c.loop-name.name-index _ _ _ _ c.loop-name-test.true c.in_ok-insert.ensures.keys c.loop-name.invariant
