use Rattle.std.proofs.Common.{arith, ◌≡◌, ◌∙◌, ap, below_more, length, None, refl}
use Rattle.std.proofs.lemmas.List.{length-map}
use Rattle.fluent_c_handles.specs.Calls.Formatting.{answers}
use Rattle.fluent_c_handles.specs.Answers.{all_kept, kept_in}
use Rattle.fluent_c_handles.proofs.Found.{by_status}
use Rattle.fluent_c_handles.proofs.Places.{index_of, left_by, no_index, stands_at}
use Rattle.fluent_c_handles.proofs.first.first_to_answer.Goals as goal

pub loop-index-init : goal.loop-index-init
loop-index-init c = ((refl, refl), λ k h. absurd (omega arith))

pub loop-index-preserved : goal.loop-index-preserved
loop-index-preserved c =
    let found = by_status c.args.id.now c.args.name.now c.as_bytes.result.now c.as_bytes-in-loop-index.result.now c.as_bytes.ensures.value c.as_bytes-in-loop-index.ensures.value _ _ c.find-status.result c.find-status.ensures.0 in
    let at = stands_at c.loop-index.slots _ c.loop-index.invariant.0 c.loop-index.index (omega arith) c.index-slots-index.result in (
      left_by c.loop-index.slots _ c.loop-index.invariant.0 c.loop-index.index (omega arith) c.index-slots-index.result c.find-status.new.self found.same c.find-status.ensures.1,
      below_more _ _ c.loop-index.invariant.1 (ap (answers c.args.id.now c.args.name.now) at ∙ found.passed c.if-status-ne-NO_MESSAGE.false),
    )

pub returns-then-status-ne-NO_MESSAGE-clause-left : goal.returns-then-status-ne-NO_MESSAGE-clause-left
returns-then-status-ne-NO_MESSAGE-clause-left c =
    let found = by_status c.args.id.now c.args.name.now c.as_bytes.result.now c.as_bytes-in-loop-index.result.now c.as_bytes.ensures.value c.as_bytes-in-loop-index.ensures.value _ _ c.find-status.result c.find-status.ensures.0 in
    left_by c.loop-index.slots _ c.loop-index.invariant.0 c.loop-index.index (omega arith) c.index-slots-index.result c.find-status.new.self found.same c.find-status.ensures.1

pub returns-then-status-ne-NO_MESSAGE-clause-first : goal.returns-then-status-ne-NO_MESSAGE-clause-first
returns-then-status-ne-NO_MESSAGE-clause-first c =
    let found = by_status c.args.id.now c.args.name.now c.as_bytes.result.now c.as_bytes-in-loop-index.result.now c.as_bytes.ensures.value c.as_bytes-in-loop-index.ensures.value _ _ c.find-status.result c.find-status.ensures.0 in
    let at = stands_at c.loop-index.slots _ c.loop-index.invariant.0 c.loop-index.index (omega arith) c.index-slots-index.result in
    let long : length (all_kept c.args.slots.now) ≡ length c.args.slots.now = length-map c.args.slots.now kept_in in
    index_of (answers c.args.id.now c.args.name.now) (all_kept c.args.slots.now) c.loop-index.index None (omega arith) c.loop-index.invariant.1
    (ap (answers c.args.id.now c.args.name.now) at ∙ found.stopped c.utf8.id c.utf8.name c.if-status-ne-NO_MESSAGE.true)

pub returns-clause-left : goal.returns-clause-left
returns-clause-left c = c.loop-index.invariant.0

pub returns-clause-first : goal.returns-clause-first
returns-clause-first c =
    let long : length (all_kept c.args.slots.now) ≡ length c.args.slots.now = length-map c.args.slots.now kept_in in
    no_index (answers c.args.id.now c.args.name.now) (all_kept c.args.slots.now) c.loop-index.index None (omega arith) c.loop-index.invariant.1
