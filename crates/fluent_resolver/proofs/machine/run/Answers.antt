use Rattle.std.proofs.Common.{◌≡◌, ◌+◌, rules, sym, ap, arith, length, [], None}
use Rattle.fluent_resolver_state.specs.Status.{state, state_parts}
use Rattle.fluent_values.specs.Sinks.{outside}
use Rattle.fluent_resolver.specs.Frames.{at_end, frame, made, onto, values_view}
use Rattle.fluent_resolver.specs.Inside.Waits.{frames_in, values_in}
use Rattle.fluent_resolver.proofs.Going.{begun, goes, turns, with_fewer}
use Rattle.fluent_resolver.proofs.Laying.{viewed}
use Rattle.fluent_resolver.proofs.Pushing.{ready_still}
use Rattle.fluent_resolver.proofs.Running.{ends_err, ends_ok, taken_off}
use Rattle.fluent_resolver.proofs.Taken.{ends_lacks, falls, first_laid, is_laid, is_taken, placed_laid}
use Rattle.fluent_resolver.proofs.machine.run.Goals as goal

pub returns-in_err-lay : goal.returns-in_err-lay
unfolding state_parts
returns-in_err-lay g c =
    let content = g.C.FluentType.content in
    let a = state g.B.Context.meant g.B.Context.is_plain g.F.FluentFunction.answer content c.args.scope.now in
    ends_lacks _ c.in_err-lay.was (search rules) c.in_err-lay.ensures.err (begun _ 0 (outside g.W.Write.contents c.args.out.now) a)

pub loop-frame-init : goal.loop-frame-init
unfolding state_parts
loop-frame-init g c =
    let content = g.C.FluentType.content in
    let contents = g.W.Write.contents in
    let a = state g.B.Context.meant g.B.Context.is_plain g.F.FluentFunction.answer content c.args.scope.now in
    let out = c.args.out.now in
    let fs = (frames_in c.args.work.now) in
    let ws = c.lay.new.waiting.items in
    let laid = first_laid ws c.new-waiting.result.items fs c.new-waiting.ensures.items c.in_ok-lay.ensures.laid in
    let same = ap (λ vs. onto content a.bundle ws at_end None (viewed out a (values_view content vs))) (sym c.lay.ensures.values) in
    record {
      along = turns same (is_laid content a.bundle [] fs ws at_end None (viewed out a (values_view content (values_in c.args.work.now))) laid (with_fewer (0 + length fs) (omega arith) (begun _ (length fs) (outside contents out) a)));
      placed = placed_laid a.stored.numbers a.stored.table [] fs ws laid tt c.requires;
      nothing = c.in_ok-lay.ensures.rest;
    }

pub resume-requires-clause-placed : goal.resume-requires-clause-placed
unfolding state_parts
resume-requires-clause-placed g c =
    let a = state g.B.Context.meant g.B.Context.is_plain g.F.FluentFunction.answer g.C.FluentType.content c.loop-frame.scope in
    (taken_off a.stored.numbers a.stored.table c.pop.new.self.items c.loop-frame.waiting.items c.in-Some.frame c.in-Some.ensures.items c.loop-frame.invariant.placed).1

pub returns-in_err-given : goal.returns-in_err-given
unfolding state_parts
returns-in_err-given g c =
    let content = g.C.FluentType.content in
    let a = state g.B.Context.meant g.B.Context.is_plain g.F.FluentFunction.answer content c.loop-frame.scope in
    let gs = c.loop-frame.waiting.items in
    let v = viewed c.loop-frame.out a (values_view content (values_in c.loop-frame.work)) in
    let fs = c.pop.new.self.items in
    let way = is_taken content a.bundle fs gs c.in-Some.frame at_end (made content c.loop-frame.given) v c.in-Some.ensures.items c.loop-frame.invariant.along in
    ends_err _ c.in_err-given.was (search rules) way (c.resume.ensures.goes (λ b. onto content b fs at_end) (length fs))

pub loop-frame-smaller : goal.loop-frame-smaller
unfolding state_parts
loop-frame-smaller g c =
    let content = g.C.FluentType.content in
    let contents = g.W.Write.contents in
    let a = state g.B.Context.meant g.B.Context.is_plain g.F.FluentFunction.answer content c.loop-frame.scope in
    let b = state g.B.Context.meant g.B.Context.is_plain g.F.FluentFunction.answer content c.resume.new.scope in
    let gs = c.loop-frame.waiting.items in
    let given = made content c.loop-frame.given in
    let v = viewed c.loop-frame.out a (values_view content (values_in c.loop-frame.work)) in
    let u = viewed c.resume.new.out b (values_view content (values_in c.resume.new.work)) in
    let fs = c.pop.new.self.items in
    let there = goes c.in_ok-given.was (begun (frame content c.in-Some.frame given a.bundle (onto content a.bundle fs at_end) v) (length fs) (outside contents c.loop-frame.out) a) (c.resume.ensures.goes (λ b. onto content b fs at_end) (length fs)) in
    let same = ap (λ vs. onto content b.bundle c.lay-in-Some.new.waiting.items at_end (made content c.in_ok-given.given) (viewed c.resume.new.out b (values_view content vs))) (sym c.lay-in-Some.ensures.values) in
    falls content a.bundle fs gs c.in-Some.frame at_end given v c.in-Some.ensures.items
    (turns same (is_laid content b.bundle fs (frames_in c.resume.new.work) c.lay-in-Some.new.waiting.items at_end (made content c.in_ok-given.given) u c.in_ok-lay-2.ensures.laid there))

pub loop-frame-preserved : goal.loop-frame-preserved
unfolding state_parts
loop-frame-preserved g c =
    let content = g.C.FluentType.content in
    let contents = g.W.Write.contents in
    let a = state g.B.Context.meant g.B.Context.is_plain g.F.FluentFunction.answer content c.loop-frame.scope in
    let b = state g.B.Context.meant g.B.Context.is_plain g.F.FluentFunction.answer content c.resume.new.scope in
    let gs = c.loop-frame.waiting.items in
    let given = made content c.loop-frame.given in
    let v = viewed c.loop-frame.out a (values_view content (values_in c.loop-frame.work)) in
    let u = viewed c.resume.new.out b (values_view content (values_in c.resume.new.work)) in
    let fs = c.pop.new.self.items in
    let way = is_taken content a.bundle fs gs c.in-Some.frame at_end given v c.in-Some.ensures.items c.loop-frame.invariant.along in
    let went = c.resume.ensures.goes (λ b. onto content b fs at_end) (length fs) in
    let there = goes c.in_ok-given.was (begun (frame content c.in-Some.frame given a.bundle (onto content a.bundle fs at_end) v) (length fs) (outside contents c.loop-frame.out) a) went in
    let below = (taken_off a.stored.numbers a.stored.table fs gs c.in-Some.frame c.in-Some.ensures.items c.loop-frame.invariant.placed).0 in
    let same = ap (λ vs. onto content b.bundle c.lay-in-Some.new.waiting.items at_end (made content c.in_ok-given.given) (viewed c.resume.new.out b (values_view content vs))) (sym c.lay-in-Some.ensures.values) in
    record {
      along = turns same (is_laid content b.bundle fs (frames_in c.resume.new.work) c.lay-in-Some.new.waiting.items at_end (made content c.in_ok-given.given) u c.in_ok-lay-2.ensures.laid (goes c.in_ok-given.was way went));
      placed = placed_laid b.stored.numbers b.stored.table fs (frames_in c.resume.new.work) c.lay-in-Some.new.waiting.items c.in_ok-lay-2.ensures.laid (ready_still a b fs there.happened.stays.stored below) c.in_ok-given.ensures.placed;
      nothing = c.in_ok-lay-2.ensures.rest;
    }

pub returns-in_err-lay-2 : goal.returns-in_err-lay-2
unfolding state_parts
returns-in_err-lay-2 g c =
    let content = g.C.FluentType.content in
    let a = state g.B.Context.meant g.B.Context.is_plain g.F.FluentFunction.answer content c.loop-frame.scope in
    let gs = c.loop-frame.waiting.items in
    let v = viewed c.loop-frame.out a (values_view content (values_in c.loop-frame.work)) in
    let fs = c.pop.new.self.items in
    let way = is_taken content a.bundle fs gs c.in-Some.frame at_end (made content c.loop-frame.given) v c.in-Some.ensures.items c.loop-frame.invariant.along in
    ends_lacks _ c.in_err-lay-2.was (search rules) c.in_err-lay-2.ensures.err (goes c.in_ok-given.was way (c.resume.ensures.goes (λ b. onto content b fs at_end) (length fs)))

pub returns : goal.returns
unfolding state_parts
returns g c =
    let content = g.C.FluentType.content in
    let a = state g.B.Context.meant g.B.Context.is_plain g.F.FluentFunction.answer content c.loop-frame.scope in
    let gs = c.loop-frame.waiting.items in
    let v = viewed c.loop-frame.out a (values_view content (values_in c.loop-frame.work)) in
    let empty : gs ≡ [] = search (rules, c.in_default.ensures, c.in_default.is) in
    ends_ok _ (ap (λ l. onto content a.bundle l at_end (made content c.loop-frame.given) v) empty) c.loop-frame.invariant.along
