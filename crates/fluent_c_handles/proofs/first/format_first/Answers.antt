use Rattle.std.proofs.Common.{arith, ◌≡◌, ◌∙◌, ◌<◌, sym, ap, length, Some, None}
use Rattle.std.proofs.lemmas.List.{length-map}
use Rattle.std.specs.List.{position}
use Rattle.fluent_c_handles.specs.Calls.Formatting.{answers, told_in}
use Rattle.fluent_c_handles.specs.Answers.{all_kept, kept_in}
use Rattle.fluent_c_handles.proofs.FirstGiven.{answers_as, formats_by, formats_none, stays}
use Rattle.fluent_c_handles.proofs.Places.{found_at, found_none, left_by, stands_at, within}
use Rattle.fluent_c_handles.proofs.first.format_first.Goals as goal

pub returns-in-Some-clause-left : goal.returns-in-Some-clause-left
returns-in-Some-clause-left c =
    let at : Some c.in-Some.index ≡ position (answers c.in-Ok-Ok.message.now c.in-Ok-Ok.attribute.now) (all_kept c.args.slots.now) = sym c.in-Some.is ∙ c.first_to_answer.ensures.first in
    let long : length (all_kept c.args.slots.now) ≡ length c.args.slots.now = length-map c.args.slots.now kept_in in
    let lt : c.in-Some.index < length (all_kept c.args.slots.now) = within (answers c.in-Ok-Ok.message.now c.in-Ok-Ok.attribute.now) (all_kept c.args.slots.now) c.in-Some.index None at in
    left_by c.first_to_answer.new.slots _ c.first_to_answer.ensures.left c.in-Some.index (omega arith) c.index-slots-index.result c.format.new.self
    (stays c.args.meant.now.table c.args.answers.now (told_in c.args.form) c.args.id.now c.args.name.now c.args.args.now _ _ _ _ _ _ _ _ c.format.ensures.0) c.format.ensures.1

pub returns-in-Some-clause-text : goal.returns-in-Some-clause-text
returns-in-Some-clause-text c =
    let at : Some c.in-Some.index ≡ position (answers c.in-Ok-Ok.message.now c.in-Ok-Ok.attribute.now) (all_kept c.args.slots.now) = sym c.in-Some.is ∙ c.first_to_answer.ensures.first in
    let long : length (all_kept c.args.slots.now) ≡ length c.args.slots.now = length-map c.args.slots.now kept_in in
    let lt : c.in-Some.index < length (all_kept c.args.slots.now) = within (answers c.in-Ok-Ok.message.now c.in-Ok-Ok.attribute.now) (all_kept c.args.slots.now) c.in-Some.index None at in
    let stands = stands_at c.first_to_answer.new.slots _ c.first_to_answer.ensures.left c.in-Some.index (omega arith) c.index-slots-index.result in
    formats_by c.args.meant.now.table c.args.answers.now (told_in c.args.form) _ _ _ c.in-Ok-Ok.message.now c.in-Ok-Ok.attribute.now c.in-Ok-Ok.ensures.cases.0 c.in-Ok-Ok.ensures'.cases.0 (c.in-Ok-Ok.ensures.cases.1, c.in-Ok-Ok.ensures'.cases.1) c.args.slots.now
    _ (found_at (answers c.in-Ok-Ok.message.now c.in-Ok-Ok.attribute.now) (all_kept c.args.slots.now) c.in-Some.index None at ∙ ap Some stands) _ _ _ _ _ _
    (answers_as c.args.meant.now.table c.args.answers.now (told_in c.args.form) c.args.id.now c.args.name.now c.args.args.now _ _ _ _ _ _ _ _ c.format.ensures.0)

pub returns-in-None-clause-text : goal.returns-in-None-clause-text
returns-in-None-clause-text c =
    let none : None ≡ position (answers c.in-Ok-Ok.message.now c.in-Ok-Ok.attribute.now) (all_kept c.args.slots.now) = sym c.in-None.is ∙ c.first_to_answer.ensures.first in
    formats_none c.args.meant.now.table c.args.answers.now (told_in c.args.form) _ _ _ c.in-Ok-Ok.message.now c.in-Ok-Ok.attribute.now c.in-Ok-Ok.ensures.cases.0 c.in-Ok-Ok.ensures'.cases.0 (c.in-Ok-Ok.ensures.cases.1, c.in-Ok-Ok.ensures'.cases.1) c.args.slots.now
    (found_none (answers c.in-Ok-Ok.message.now c.in-Ok-Ok.attribute.now) (all_kept c.args.slots.now) none) _ _ _ _ c.refuse-in-None.ensures.status c.refuse-in-None.ensures.zero
