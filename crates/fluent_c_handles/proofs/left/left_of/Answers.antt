use Rattle.fluent_c_handles.proofs.Going.{all_left, seen_more}
use Rattle.fluent_c_handles.proofs.left.left_of.Goals as goal

pub loop-k-preserved : goal.loop-k-preserved
loop-k-preserved g c = seen_more c.args.ids.now c.args.entries.now c.loop-k.k c.index-entries-k.result c.loop-k.seen c.add_entry.new.seen c.loop-k-test.true c.index-entries-k.is c.loop-k.invariant c.in_ok-add_entry.ensures

pub returns : goal.returns
returns g c = all_left c.args.ids.now c.args.entries.now c.loop-k.k c.loop-k.seen c.loop-k-test.false c.loop-k.invariant
