use Rattle.std.proofs.Common.{◌∙◌}
use Rattle.fluent_references.specs.Cursors.{seen}
use Rattle.fluent_resolver_state.proofs.InTurn.{begins_after, begins_here, not_default}
use Rattle.fluent_resolver_state.proofs.variants.first_default.Goals as goal

pub returns-then-variant-clause-placed : goal.returns-then-variant-clause-placed
returns-then-variant-clause-placed c = λ number before.
    begins_here number c.args.variants.now c.loop-variant.variant-index c.variant-item.result c.loop-variant-test.true c.variant-item.is c.of.result c.loop-variant.at c.of.ensures.pattern c.of.ensures.cursor (c.loop-variant.invariant.placed number before)

pub loop-variant-preserved : goal.loop-variant-preserved
loop-variant-preserved c = record {
  chose = c.loop-variant.invariant.chose ∙ not_default c.args.variants.now c.loop-variant.variant-index c.variant-item.result c.loop-variant-test.true c.variant-item.is c.if-variant.false;
  placed = λ number before. begins_after number c.args.variants.now c.loop-variant.variant-index c.variant-item.result c.loop-variant-test.true c.variant-item.is (seen c.loop-variant.at) (seen c.after_pattern-at.result) c.after_pattern-at.ensures (c.loop-variant.invariant.placed number before);
}
