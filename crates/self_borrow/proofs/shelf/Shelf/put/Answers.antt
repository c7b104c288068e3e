use Rattle.std.proofs.Common.{rules}
use Rattle.self_borrow.proofs.shelf.Shelf.put.Goals as goal

pub returns-clause-some : goal.returns-clause-some
returns-clause-some g c = record { loan = c.borrow-lifetime.result.1; after = search rules; of = search rules }
