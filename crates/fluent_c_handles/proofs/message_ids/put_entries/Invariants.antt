use Rattle.std.proofs.Common.{◌≡◌, map}
use Rattle.std.specs.Slice.Iter.{iter_rest}
use Rattle.fluent_ast.specs.View.{entry_view}
use Rattle.fluent_resource.specs.ResourceView.{entries_of}
use Rattle.fluent_c_handles.specs.Answers.{bundle_view}
use Rattle.fluent_c_handles.specs.Inside.Gathered.{gathered, with_entries}
use Rattle.fluent_c_handles.specs.Calls.Finding.{names_message}
use Rattle.fluent_c_handles.proofs.message_ids.put_entries.Given as goal

-- those of the rest put beside those so far
abbrev pub invariant-loop-entry : goal.invariant-loop-entry
invariant-loop-entry l =
    let passes = names_message (bundle_view l.bundle) in
    with_entries passes (map entry_view (iter_rest l.entry-iterator)) (gathered l.ids)
    ≡ with_entries passes (entries_of l.resource) (gathered l.fn.ids)
