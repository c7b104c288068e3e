use Rattle.std.proofs.Common.{◌≡◌, ◌+◌, ◌*◌, length, [], None}
use Rattle.fluent_resolver_state.specs.Status.{state}
use Rattle.fluent_values.specs.Sinks.{outside}
use Rattle.fluent_resolver.specs.Frames.{Along, ArePlacedFrames, at_end, before, made, onto, values_view}
use Rattle.fluent_resolver.specs.Inside.Waits.{frames_in, values_in}
use Rattle.fluent_resolver.proofs.Laying.{viewed}
use Rattle.fluent_resolver.proofs.machine.run.Given as goal

abbrev pub invariant-loop-frame : goal.invariant-loop-frame
invariant-loop-frame g l =
    let content = g.C.FluentType.content in
    let contents = g.W.Write.contents in
    let a = state g.B.Context.meant g.B.Context.is_plain g.F.FluentFunction.answer content l.fn.scope in
    let b = state g.B.Context.meant g.B.Context.is_plain g.F.FluentFunction.answer content l.scope in
    record {
      along : Along
          (before content a.bundle (frames_in l.fn.work) at_end None (viewed l.fn.out a (values_view content (values_in l.fn.work)))) (length (frames_in l.fn.work))
          (onto content b.bundle l.waiting.items at_end (made content l.given) (viewed l.out b (values_view content (values_in l.work)))) (length l.waiting.items)
          (outside contents l.fn.out) (outside contents l.out) a b;
      placed : ArePlacedFrames b.stored.numbers b.stored.table l.waiting.items;
      nothing : (frames_in l.work) ≡ [];
    }

abbrev pub decreases-loop-frame : goal.decreases-loop-frame
decreases-loop-frame g l =
    let content = g.C.FluentType.content in
    let b = state g.B.Context.meant g.B.Context.is_plain g.F.FluentFunction.answer content l.scope in
    4 * (onto content b.bundle l.waiting.items at_end (made content l.given) (viewed l.out b (values_view content (values_in l.work)))).parts + length l.waiting.items
