use Rattle.std.proofs.Common.{rules}
use Rattle.fluent_bundle_entries.specs.IdNumbers.{table}
use Rattle.fluent_path.specs.Facts.{idle_kept}
use Rattle.fluent_resolver_state.specs.Status.{state_parts}
use Rattle.fluent_values.specs.Facts.Outputs.{stays_through}
use Rattle.fluent_resolver.specs.ScopeView.{scope_parts}
use Rattle.fluent_resolver.proofs.Homes.{outside_kept}
use Rattle.fluent_resolver.proofs.Wholes.{did_by_writer, did_outside}
use Rattle.fluent_resolver.proofs.scope.Scope.write_ref_error.Goals as goal

pub invariant_of-self : goal.invariant_of-self
unfolding scope_parts state_parts
invariant_of-self g c =
    let old = c.args.self.now.state in
    let new = c.lose-written.new.scope in
    record {
      idle = idle_kept old.path new.path (table old.ids.now) (table new.ids.now) c.args.self.now.idle c.lose-written.ensures.wrote.path;
      outside = outside_kept g.C.FluentType.content old.environment new.environment c.args.self.now.outside c.lose-written.ensures.wrote.environment;
    }

pub returns-clause-did : goal.returns-clause-did
unfolding scope_parts state_parts
returns-clause-did g c =
    let contents = g.W.Write.contents in
    let out = c.through.result in
    let out1 = c.lose-written.new.out in
    let e = c.through.ensures in
    let wrote = c.lose-written.ensures.wrote in
    let through = stays_through contents out out1 wrote.happened.beside (e.kept, e.through) in
    did_by_writer contents c.with_error.result c.args.w.now _ out out1 c.with_error.ensures e.writer e.through (search rules)
    (did_outside contents out out1 e.kept through.0 wrote)
