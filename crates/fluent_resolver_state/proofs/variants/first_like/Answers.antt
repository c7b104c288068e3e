use Rattle.std.proofs.Common.{◌∙◌, map}
use Rattle.std.specs.Option.{option_map}
use Rattle.fluent_ast.specs.Tree.{variants_of}
use Rattle.fluent_ast.specs.View.{variant_view}
use Rattle.fluent_intl.specs.Number.{number_of}
use Rattle.fluent_semantics.specs.Bundle.{key_value}
use Rattle.fluent_resolver_state.specs.Choice.{first_default, is_like}
use Rattle.fluent_references.specs.Cursors.{seen}
use Rattle.fluent_resolver_state.proofs.InTurn.{begins_after, begins_here, not_like}
use Rattle.fluent_resolver_state.proofs.variants.first_like.Goals as goal

pub returns-then-is_like-clause-placed : goal.returns-then-is_like-clause-placed
returns-then-is_like-clause-placed c = λ number before.
    begins_here number c.args.variants.now c.loop-variant.variant-index c.variant-item.result c.loop-variant-test.true c.variant-item.is c.of.result c.loop-variant.at c.of.ensures.pattern c.of.ensures.cursor (c.loop-variant.invariant.placed number before)

pub loop-variant-preserved : goal.loop-variant-preserved
loop-variant-preserved c =
    let vs = variants_of (map variant_view c.args.variants.now) in
    let like = is_like c.args.word.now (option_map (λ n. number_of n.now) c.args.number) in
    record {
      chose = c.loop-variant.invariant.chose ∙ not_like c.args.variants.now c.loop-variant.variant-index c.variant-item.result c.loop-variant-test.true c.variant-item.is (λ key. like (key_value key)) (first_default vs) _ c.is_like.ensures c.if-is_like.false;
      placed = λ number before. begins_after number c.args.variants.now c.loop-variant.variant-index c.variant-item.result c.loop-variant-test.true c.variant-item.is (seen c.loop-variant.at) (seen c.after_pattern-at.result) c.after_pattern-at.ensures (c.loop-variant.invariant.placed number before);
    }
