use Rattle.fluent_bundle_entries.specs.IdNumbers.{table}
use Rattle.fluent_resolver_state.proofs.state.State.begin.Goals as goal

pub invariant_of-self : goal.invariant_of-self
invariant_of-self g c = record { classed = c.begin-begun.ensures.classes (table c.args.self.now.ids.now) c.args.self.now.classed }
