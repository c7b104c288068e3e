use Rattle.fluent_lint.proofs.Again.{entry_more, entries_end}
use Rattle.fluent_lint.proofs.sources.add_entries.Goals as goal

pub loop-k-preserved : goal.loop-k-preserved
loop-k-preserved c = entry_more c.args.resource c.args.entries.now c.loop-k.k c.index-entries-k.result c.args.seen.now c.loop-k.seen c.add_entry.new.seen c.loop-k-test.true c.index-entries-k.is c.loop-k.invariant c.in_ok-add_entry.ensures

pub returns : goal.returns
returns c = entries_end c.args.resource c.args.entries.now c.loop-k.k c.args.seen.now c.loop-k.seen c.loop-k-test.false c.loop-k.invariant
