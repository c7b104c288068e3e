use Rattle.std.proofs.Common.{◌≡◌, ℕ, ◌<◌, false, get_or, None}
use Rattle.fluent_c_handles.specs.Calls.Formatting.{answers}
use Rattle.fluent_c_handles.specs.Answers.{SlotsStay, all_kept}
use Rattle.fluent_c_handles.proofs.first.first_to_answer.Given as goal

-- all mean the same still, and those that were passed over are not asked
abbrev pub invariant-loop-index : goal.invariant-loop-index
invariant-loop-index l =
    let old = all_kept l.initial.slots in
    SlotsStay l.initial.slots l.slots × ((k : ℕ) → k < l.index → answers l.id l.name (get_or old k None) ≡ false)
