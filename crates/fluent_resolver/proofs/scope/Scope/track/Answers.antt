use Rattle.std.proofs.Common.{rules, sym, ap}
use Rattle.fluent_bundle_entries.specs.IdNumbers.{table}
use Rattle.fluent_ast.specs.View.{inline_view, pattern_view}
use Rattle.fluent_path.specs.Facts.{idle_path}
use Rattle.fluent_resolver_state.specs.Status.{environment_view, state_parts}
use Rattle.fluent_resolver.specs.ScopeView.{scope_parts, status}
use Rattle.fluent_resolver.proofs.Wholes.{did_by_writer, rested, tracked_whole, tried_events}
use Rattle.fluent_resolver.proofs.scope.Scope.track.Goals as goal

pub returns-clause-did : goal.returns-clause-did
unfolding scope_parts state_parts
returns-clause-did g c =
    let contents = g.W.Write.contents in
    let a = status g.B.Context.meant g.B.Context.is_plain g.F.FluentFunction.answer g.C.FluentType.content c.args.self.now in
    let old = c.args.self.now.state in
    let out = c.through.result in
    let out1 = c.write_whole-written.new.out in
    let e = c.through.ensures in
    let home = ap (environment_view g.C.FluentType.content) (c.application-home.ensures c.args.self.now.outside) in
    let idle = idle_path old.path (table old.ids.now) c.args.self.now.idle in
    did_by_writer contents c.with_error.result c.args.w.now _ out out1 c.with_error.ensures e.writer e.through (search rules)
    (rested home idle c.rest.ensures.rests (tried_events (sym (tracked_whole c.events_are_the_run.ensures.by_itself (pattern_view c.args.pattern.now) (inline_view c.args.inline.now) a idle)) c.write_whole-written.ensures.did))
