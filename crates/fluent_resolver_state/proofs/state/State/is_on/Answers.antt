use Rattle.fluent_bundle_entries.specs.IdNumbers.{table, table_is_distinct}
use Rattle.fluent_resolver_state.specs.Status.{state_parts}
use Rattle.fluent_resolver_state.proofs.state.State.is_on.Goals as goal

pub returns : goal.returns
unfolding state_parts
returns g c = c.is_on.ensures (table c.args.self.now.ids.now) (table_is_distinct c.args.self.now.ids.now) c.args.self.now.classed c.requires
