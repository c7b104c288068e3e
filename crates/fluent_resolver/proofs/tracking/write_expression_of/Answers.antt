use Rattle.std.proofs.Common.{rules, ap, sym, arith, false, None}
use Rattle.fluent_ast.specs.Tree.{Text}
use Rattle.fluent_ast.specs.View.{expression_view}
use Rattle.fluent_semantics.specs.Bundle.{Bundle}
use Rattle.fluent_resolver_state.specs.Status.{state, state_parts}
use Rattle.fluent_values.specs.Sinks.{outside}
use Rattle.fluent_resolver.specs.Frames.{at_end, before, values_view}
use Rattle.fluent_resolver.specs.Inside.Parts as parts
use Rattle.fluent_resolver.specs.Inside.Parts.{Following}
use Rattle.fluent_resolver.specs.Inside.Waits.{frames_in, values_in}
use Rattle.fluent_resolver.proofs.Going.{goes, turns, waits}
use Rattle.fluent_resolver.proofs.Laying.{viewed}
use Rattle.fluent_resolver.proofs.Pushing.{placed_pushed}
use Rattle.fluent_resolver.proofs.Running.{ends_err, ends_last}
use Rattle.fluent_resolver.proofs.Waiting.{is_done, is_put}
use Rattle.fluent_resolver.proofs.Wholes.{begins_closed, begun_with, entered_closed, runs_on, tried, tried_none}
use Rattle.fluent_resolver.proofs.tracking.write_expression_of.Goals as goal

pub returns-in-Err : goal.returns-in-Err
unfolding state_parts
returns-in-Err g c =
    let content = g.C.FluentType.content in
    let contents = g.W.Write.contents in
    let a = state g.B.Context.meant g.B.Context.is_plain g.F.FluentFunction.answer content c.args.scope.now in
    let b = state g.B.Context.meant g.B.Context.is_plain g.F.FluentFunction.answer content c.begin.new.self in
    let out = c.args.out.now in
    let e = expression_view c.args.expression.now in
    let work = c.new-work.result in
    let next : Bundle Text → Following = λ s given u. parts.closing e false s at_end u in
    let way = turns (begun_with content (parts.expression e) (next b.bundle) b out work c.requires.kept c.new-work.ensures.values) (waits 1 (omega arith) (begins_closed e (outside contents out) c.begin.ensures)) in
    tried (entered_closed e c.begin.ensures) (ends_err None c.in-Err.is (search rules) way (c.write_expression.ensures.goes next 1))

pub returns-in-Err-wait_close : goal.returns-in-Err-wait_close
unfolding state_parts
returns-in-Err-wait_close g c =
    let content = g.C.FluentType.content in
    let contents = g.W.Write.contents in
    let a = state g.B.Context.meant g.B.Context.is_plain g.F.FluentFunction.answer content c.args.scope.now in
    let b = state g.B.Context.meant g.B.Context.is_plain g.F.FluentFunction.answer content c.begin.new.self in
    let out = c.args.out.now in
    let e = expression_view c.args.expression.now in
    let work = c.new-work.result in
    let next : Bundle Text → Following = λ s given u. parts.closing e false s at_end u in
    let way = turns (begun_with content (parts.expression e) (next b.bundle) b out work c.requires.kept c.new-work.ensures.values) (waits 1 (omega arith) (begins_closed e (outside contents out) c.begin.ensures)) in
    let d = state g.B.Context.meant g.B.Context.is_plain g.F.FluentFunction.answer content c.write_expression.new.scope in
    let work1 = c.write_expression.new.work in
    let last = viewed c.write_expression.new.out d (values_view content (values_in work1)) in
    let there = goes c.in-Ok.is way (c.write_expression.ensures.goes next 1) in
    tried_none (search rules) (entered_closed e c.begin.ensures) there

pub returns-then-is_done : goal.returns-then-is_done
unfolding state_parts
returns-then-is_done g c =
    let content = g.C.FluentType.content in
    let contents = g.W.Write.contents in
    let a = state g.B.Context.meant g.B.Context.is_plain g.F.FluentFunction.answer content c.args.scope.now in
    let b = state g.B.Context.meant g.B.Context.is_plain g.F.FluentFunction.answer content c.begin.new.self in
    let out = c.args.out.now in
    let e = expression_view c.args.expression.now in
    let work = c.new-work.result in
    let next : Bundle Text → Following = λ s given u. parts.closing e false s at_end u in
    let way = turns (begun_with content (parts.expression e) (next b.bundle) b out work c.requires.kept c.new-work.ensures.values) (waits 1 (omega arith) (begins_closed e (outside contents out) c.begin.ensures)) in
    let d = state g.B.Context.meant g.B.Context.is_plain g.F.FluentFunction.answer content c.write_expression.new.scope in
    let work1 = c.write_expression.new.work in
    let last = viewed c.write_expression.new.out d (values_view content (values_in work1)) in
    let there = goes c.in-Ok.is way (c.write_expression.ensures.goes next 1) in
    let none = c.is_done.ensures.0 c.if-is_done.true in
    tried (entered_closed e c.begin.ensures) (ends_last _ (values_view content (values_in work1)) (is_done content d.bundle (frames_in work1) (next d.bundle) None last none there) (c.close.ensures.goes (λ s. at_end) (values_view content (values_in work1)) 1))

pub returns : goal.returns
unfolding state_parts
returns g c =
    let content = g.C.FluentType.content in
    let contents = g.W.Write.contents in
    let a = state g.B.Context.meant g.B.Context.is_plain g.F.FluentFunction.answer content c.args.scope.now in
    let b = state g.B.Context.meant g.B.Context.is_plain g.F.FluentFunction.answer content c.begin.new.self in
    let out = c.args.out.now in
    let e = expression_view c.args.expression.now in
    let work = c.new-work.result in
    let next : Bundle Text → Following = λ s given u. parts.closing e false s at_end u in
    let way = turns (begun_with content (parts.expression e) (next b.bundle) b out work c.requires.kept c.new-work.ensures.values) (waits 1 (omega arith) (begins_closed e (outside contents out) c.begin.ensures)) in
    let d = state g.B.Context.meant g.B.Context.is_plain g.F.FluentFunction.answer content c.write_expression.new.scope in
    let work1 = c.write_expression.new.work in
    let last = viewed c.write_expression.new.out d (values_view content (values_in work1)) in
    let there = goes c.in-Ok.is way (c.write_expression.ensures.goes next 1) in
    let put = turns (ap (λ vs. before content d.bundle (frames_in c.wait_close.new.self) at_end None (viewed c.write_expression.new.out d (values_view content vs))) (sym c.wait_close.ensures.values)) (is_put 0 content d.bundle (frames_in work1) (frames_in c.wait_close.new.self) _ at_end None last c.in-Ok-wait_close.ensures.frames there) in
    tried (entered_closed e c.begin.ensures) (runs_on put c.run-ran.ensures)

pub run-ran-requires : goal.run-ran-requires
unfolding state_parts
run-ran-requires g c =
    let content = g.C.FluentType.content in
    let d = state g.B.Context.meant g.B.Context.is_plain g.F.FluentFunction.answer content c.write_expression.new.scope in
    placed_pushed d.stored.numbers d.stored.table (frames_in c.write_expression.new.work) (frames_in c.wait_close.new.self) _ c.in-Ok-wait_close.ensures.frames c.in-Ok.ensures.placed tt
