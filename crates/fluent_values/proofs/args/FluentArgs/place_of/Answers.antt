use Rattle.std.proofs.Common.{rules}
use Rattle.std.proofs.lemmas.Fn.{always_returns_same}
use Rattle.fluent_values.specs.Names.{to_name}
use Rattle.fluent_values.specs.Facts.Pairs.{searched}
use Rattle.fluent_values.proofs.args.FluentArgs.place_of.Goals as goal

-- the closure compares a pair's name, and the slice is the pairs
pub returns : goal.returns
returns g c =
    let facts = c.binary_search_by.ensures in
    let by_name = facts.position (to_name c.args.name.now) (always_returns_same _ _ _ (λ a r h called. (search rules, search rules))) in
    rw (← c.deref.ensures.value) (searched c.args.name.now c.deref.result.now (rw c.deref.ensures.value c.args.self.now.ordered) c.binary_search_by.result facts.bound by_name)
