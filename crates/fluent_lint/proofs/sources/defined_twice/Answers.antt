use Rattle.std.proofs.Common.{map, ap, ◌∙◌}
use Rattle.fluent_ast.specs.View.{entry_view}
use Rattle.fluent_lint.proofs.Again.{all_again, resource_more}
use Rattle.fluent_lint.proofs.sources.defined_twice.Goals as goal

pub loop-i-preserved : goal.loop-i-preserved
loop-i-preserved c = resource_more c.args.resources.now c.loop-i.i c.index-resources-i.result c.as_slice.result.now c.loop-i.seen c.add_entries.new.seen c.loop-i-test.true c.index-resources-i.is (ap (λ l. map entry_view l) c.as_slice.ensures.value ∙ c.entries.ensures) c.loop-i.invariant c.in_ok-add_entries.ensures

pub returns : goal.returns
returns c = all_again c.args.resources.now c.loop-i.i c.loop-i.seen c.loop-i-test.false c.loop-i.invariant
