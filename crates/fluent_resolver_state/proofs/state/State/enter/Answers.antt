use Rattle.fluent_bundle_entries.specs.IdNumbers.{table}
use Rattle.fluent_resolver_state.proofs.state.State.enter.Goals as goal

pub invariant_of-self-2 : goal.invariant_of-self-2
invariant_of-self-2 g c = record { classed = c.enter.ensures.classes (table c.args.self.now.ids.now) c.requires c.args.self.now.classed }

pub invariant_of-self : goal.invariant_of-self
invariant_of-self g c = record { classed = c.enter.ensures.classes (table c.args.self.now.ids.now) c.requires c.args.self.now.classed }
