use Rattle.fluent_bundle_entries.specs.IdNumbers.{table}
use Rattle.fluent_path.specs.Facts.{idle_kept}
use Rattle.fluent_resolver_state.specs.Status.{state_parts}
use Rattle.fluent_resolver.specs.ScopeView.{scope_parts}
use Rattle.fluent_resolver.proofs.Homes.{outside_kept}
use Rattle.fluent_resolver.proofs.scope.Scope.add_error.Goals as goal

pub invariant_of-self : goal.invariant_of-self
unfolding scope_parts state_parts
invariant_of-self g c =
    let old = c.args.self.now.state in
    let new = c.add_error.new.self in
    record {
      idle = idle_kept old.path new.path (table old.ids.now) (table new.ids.now) c.args.self.now.idle c.add_error.ensures.added.path;
      outside = outside_kept g.C.FluentType.content old.environment new.environment c.args.self.now.outside c.add_error.ensures.added.environment;
    }
