use Rattle.std.proofs.Common.{◌+◌}
use Rattle.std.specs.Option.{option_map}
use Rattle.fluent_sources.specs.Inside.Causes.{cause_view, number_in}
use Rattle.fluent_sources.proofs.Folding.{counts_more}
use Rattle.fluent_sources.proofs.causes.counts_of.Goals as goal

pub loop-finding-preserved : goal.loop-finding-preserved
loop-finding-preserved c = λ q.
    counts_more (cause_view q) c.args.findings.now c.loop-finding.finding-index _ (option_map cause_view c.cause_of.result) (number_in c.loop-finding.table (cause_view q)) (number_in c.count_if.new.table (cause_view q))
    c.loop-finding-test.true c.cause_of.ensures (c.loop-finding.invariant q) (c.in_ok-count_if.ensures q)
