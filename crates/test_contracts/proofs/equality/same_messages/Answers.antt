use Rattle.fluent_ast.specs.Same.{entry_same}
use Rattle.test_contracts.proofs.Equal.{same_views}
use Rattle.test_contracts.proofs.equality.same_messages.Goals as goal

pub returns : goal.returns
returns c = same_views entry_same c.eq.result _ _ _ _ c.eq.ensures c.from.ensures.1 c.from-2.ensures.1
