use Rattle.fluent_ast.specs.Same.{attribute_same}
use Rattle.test_contracts.proofs.Equal.{same_views}
use Rattle.test_contracts.proofs.equality.same_attributes.Goals as goal

pub returns : goal.returns
returns c = same_views attribute_same c.eq.result _ _ _ _ c.eq.ensures c.from.ensures c.from-2.ensures
