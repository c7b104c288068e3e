use Rattle.std.proofs.Common.{refl, rules, ap, ◌∙◌, None}
use Rattle.fluent_ast.specs.View.{pattern_view}
use Rattle.fluent_semantics.specs.Walk.{has_one}
use Rattle.fluent_resolver_state.specs.Facts.Views.{view_pattern}
use Rattle.fluent_resolver_state.specs.Status.{state, state_parts}
use Rattle.fluent_values.specs.Sinks.{outside}
use Rattle.fluent_resolver.specs.Frames.{at_end, elements_from, values_view}
use Rattle.fluent_resolver.specs.Inside.Parts as parts
use Rattle.fluent_resolver.specs.Inside.Waits.{frames_in, values_in}
use Rattle.fluent_resolver.proofs.Beginning.{begins_pattern}
use Rattle.fluent_resolver.proofs.Going.{goes, starts, turns}
use Rattle.fluent_resolver.proofs.Laying.{viewed}
use Rattle.fluent_resolver.proofs.Running.{ends_err, ends_ok}
use Rattle.fluent_resolver.proofs.Waiting.{is_done}
use Rattle.fluent_resolver.proofs.Wholes.{begun_with, fresh, runs_on, tried, whole_events}
use Rattle.fluent_resolver.proofs.whole.write_whole.Goals as goal

pub returns-in-Err-clause-did : goal.returns-in-Err-clause-did
unfolding state_parts
returns-in-Err-clause-did g c =
    let content = g.C.FluentType.content in
    let contents = g.W.Write.contents in
    let a = state g.B.Context.meant g.B.Context.is_plain g.F.FluentFunction.answer content c.args.scope.now in
    let b = state g.B.Context.meant g.B.Context.is_plain g.F.FluentFunction.answer content c.begin.new.self in
    let out = c.args.out.now in
    let p = pattern_view c.args.pattern.now in
    let work = c.new-work.result in
    let begins = starts (begins_pattern 0 (outside contents out) (λ x. at_end) None None (has_one p) refl c.begin.ensures) in
    let way = turns (ap (λ q. parts.elements (has_one p) q b.bundle at_end (fresh b)) (view_pattern c.args.pattern.now)
    ∙ begun_with content (parts.elements (has_one p) (elements_from 0 c.args.pattern.now)) at_end b out work c.requires.kept c.new-work.ensures.values) begins in
    tried (whole_events p a) (ends_err None c.in-Err.is (search rules) way (c.write_elements.ensures.goes (λ s. at_end) 0))

pub returns-then-is_done-clause-did : goal.returns-then-is_done-clause-did
unfolding state_parts
returns-then-is_done-clause-did g c =
    let content = g.C.FluentType.content in
    let contents = g.W.Write.contents in
    let a = state g.B.Context.meant g.B.Context.is_plain g.F.FluentFunction.answer content c.args.scope.now in
    let b = state g.B.Context.meant g.B.Context.is_plain g.F.FluentFunction.answer content c.begin.new.self in
    let out = c.args.out.now in
    let p = pattern_view c.args.pattern.now in
    let work = c.new-work.result in
    let begins = starts (begins_pattern 0 (outside contents out) (λ x. at_end) None None (has_one p) refl c.begin.ensures) in
    let way = turns (ap (λ q. parts.elements (has_one p) q b.bundle at_end (fresh b)) (view_pattern c.args.pattern.now)
    ∙ begun_with content (parts.elements (has_one p) (elements_from 0 c.args.pattern.now)) at_end b out work c.requires.kept c.new-work.ensures.values) begins in
    let d = state g.B.Context.meant g.B.Context.is_plain g.F.FluentFunction.answer content c.write_elements.new.scope in
    let work1 = c.write_elements.new.work in
    let last = viewed c.write_elements.new.out d (values_view content (values_in work1)) in
    let there = goes c.in-Ok.is way (c.write_elements.ensures.goes (λ s. at_end) 0) in
    let none = c.is_done.ensures.0 c.if-is_done.true in
    tried (whole_events p a) (ends_ok last.values refl (is_done content d.bundle (frames_in work1) at_end None last none there))

pub returns-clause-did : goal.returns-clause-did
unfolding state_parts
returns-clause-did g c =
    let content = g.C.FluentType.content in
    let contents = g.W.Write.contents in
    let a = state g.B.Context.meant g.B.Context.is_plain g.F.FluentFunction.answer content c.args.scope.now in
    let b = state g.B.Context.meant g.B.Context.is_plain g.F.FluentFunction.answer content c.begin.new.self in
    let out = c.args.out.now in
    let p = pattern_view c.args.pattern.now in
    let work = c.new-work.result in
    let begins = starts (begins_pattern 0 (outside contents out) (λ x. at_end) None None (has_one p) refl c.begin.ensures) in
    let way = turns (ap (λ q. parts.elements (has_one p) q b.bundle at_end (fresh b)) (view_pattern c.args.pattern.now)
    ∙ begun_with content (parts.elements (has_one p) (elements_from 0 c.args.pattern.now)) at_end b out work c.requires.kept c.new-work.ensures.values) begins in
    let d = state g.B.Context.meant g.B.Context.is_plain g.F.FluentFunction.answer content c.write_elements.new.scope in
    let work1 = c.write_elements.new.work in
    let last = viewed c.write_elements.new.out d (values_view content (values_in work1)) in
    let there = goes c.in-Ok.is way (c.write_elements.ensures.goes (λ s. at_end) 0) in
    tried (whole_events p a) (runs_on there c.run-ran.ensures)
