use Rattle.std.proofs.Common.{◌≡◌, map, take, string_bytes}
use Rattle.fluent_bundle.specs.BundleView.{KeepsSettings}
use Rattle.fluent_c_handles.specs.Answers.{bundle_view}
use Rattle.fluent_c_handles.specs.Inside.Put.{with_functions}
use Rattle.fluent_c_handles.proofs.answering.put_functions.Given as goal

-- the names so far have their functions
abbrev pub invariant-loop-name : goal.invariant-loop-name
invariant-loop-name l =
    (bundle_view l.bundle ≡ with_functions l.answers.value.meant.table (take l.name-index (map string_bytes l.names)) (bundle_view l.fn.bundle))
    × KeepsSettings l.fn.bundle l.bundle
