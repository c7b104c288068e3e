use Rattle.std.proofs.Common.{refl}
use Rattle.fluent_places.specs.Places.{of_term}
use Rattle.fluent_places.proofs.PlaceLists.{attribute_more, attributes_end}
use Rattle.fluent_places.proofs.entries.add_of_term.Goals as goal

pub loop-attribute-preserved : goal.loop-attribute-preserved
loop-attribute-preserved c = attribute_more (of_term c.args.id.name.now) _ _ _ c.loop-attribute.places.items _ _ _ c.loop-attribute-test.true c.attribute-item.is c.loop-attribute.invariant c.in_ok-push.ensures.items refl

pub returns : goal.returns
returns c = attributes_end (of_term c.args.id.name.now) _ _ _ _ c.loop-attribute-test.false c.loop-attribute.invariant
