use Rattle.std.proofs.Common.{rules, ap, sym, subst, ◌∙◌}
use Rattle.std.specs.Option.{option_map}
use Rattle.fluent_ast.specs.References.{references}
use Rattle.fluent_ast.specs.View.{pattern_view}
use Rattle.fluent_bundle_entries.specs.IdNumbers.{IsPlaced}
use Rattle.fluent_bundle.specs.BundleView.{bundle_parts, is_plain, meant}
use Rattle.fluent_resolver_state.specs.Status.{arguments_view, reported, state, state_parts}
use Rattle.fluent_bundle.proofs.Formats.{fresh, never_none, writes_of}
use Rattle.fluent_bundle.proofs.bundle.FluentBundle.write_resolved.Goals as goal

pub returns-in-Some : goal.returns-in-Some
unfolding bundle_parts state_parts
returns-in-Some g c =
    let of = meant g.M.MemoizerKind.category g.C.FluentType.shown g.C.FluentType.alike g.F.FluentFunction.answer g.G.FluentFormatter.formatted g.T.Transform.changed in
    let a = state of is_plain g.F.FluentFunction.answer g.C.FluentType.content c.new-state.result in
    let z = state of is_plain g.F.FluentFunction.answer g.C.FluentType.content c.write_whole-written.new.scope in
    let held = ap (option_map (λ e. reported e.now.items)) (sym c.into_errors.ensures ∙ c.in-Some.is) in
    writes_of {b = z} c.write_whole-written.ensures.did
    (fresh a (of c.args.self.now) (arguments_view g.C.FluentType.content c.args.args) (pattern_view c.args.pattern.now) c.new-state.ensures.begins)
    (search (rules, c.new-state.ensures.errors))
    (search (rules, held))

pub returns-in-None : goal.returns-in-None
unfolding state_parts
returns-in-None g c =
    let kept = c.write_whole-written.ensures.did.happened.stays.list in
    absurd (never_none (λ e. e.ghost_name) (state_parts c.write_whole-written.new.scope).errors _ (sym c.into_errors.ensures ∙ c.in-None.is) (kept ∙ ap (option_map (λ e. e.ghost_name)) c.new-state.ensures.errors))

pub write_whole-written-requires-clause-idle : goal.write_whole-written-requires-clause-idle
unfolding bundle_parts state_parts
write_whole-written-requires-clause-idle g c = c.new-state.ensures.idle

pub write_whole-written-requires-clause-kept : goal.write_whole-written-requires-clause-kept
write_whole-written-requires-clause-kept g c = c.requires.unkept

pub write_whole-written-requires-clause-placed : goal.write_whole-written-requires-clause-placed
unfolding bundle_parts state_parts
write_whole-written-requires-clause-placed g c = subst (λ m. IsPlaced m (references (pattern_view c.args.pattern.now)) c.args.cursor) (sym c.new-state.ensures.ids) c.requires.placed
