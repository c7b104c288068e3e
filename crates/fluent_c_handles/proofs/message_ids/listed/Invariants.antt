use Rattle.std.proofs.Common.{◌≡◌, [], drop}
use Rattle.fluent_c_handles.specs.Answers.{bundle_view}
use Rattle.fluent_c_handles.specs.Inside.Resources.{given}
use Rattle.fluent_c_handles.specs.Inside.Gathered.{gathered, with_resources}
use Rattle.fluent_c_handles.specs.Calls.Finding.{names_message}
use Rattle.fluent_c_handles.proofs.message_ids.listed.Given as goal

-- those of the rest put beside those so far
abbrev pub invariant-loop-added : goal.invariant-loop-added
invariant-loop-added l =
    let passes = names_message (bundle_view l.bundle) in
    with_resources passes (given (drop l.added-index l.resources)) (gathered l.ids)
    ≡ with_resources passes (given l.resources) []
