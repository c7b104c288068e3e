use Rattle.std.proofs.Common.{◌++◌, map, ap, ◌∙◌}
use Rattle.fluent_ast.specs.View.{entry_view}
use Rattle.fluent_lint.proofs.Linted.{places_more}
use Rattle.fluent_lint.proofs.sources.places_in.Goals as goal

pub loop-resource-preserved : goal.loop-resource-preserved
loop-resource-preserved c =
    places_more c.args.resources.now c.loop-resource.resource-index c.resource-item.result c.loop-resource.places.items _ c.in_ok-more.more.items _ c.loop-resource-test.true c.resource-item.is
    (c.in_ok-extend_from_slice.ensures.items ∙ ap (λ l. c.loop-resource.places.items ++ l) c.deref.ensures.value) c.in_ok-more.ensures (ap (λ l. map entry_view l) c.as_slice.ensures.value ∙ c.entries.ensures) c.loop-resource.invariant
