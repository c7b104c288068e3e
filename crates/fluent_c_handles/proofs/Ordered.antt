-- The ids of a bundle rise.
use Rattle.std.proofs.Common.{T}
use Rattle.std.specs.Ordering.{nat_cmp}
use Rattle.std.specs.Cmp.Lexicographic.{slice_cmp}
use Rattle.std.specs.FinMap.{entries_sorted}
use Rattle.std.specs.FinMap.Entries.{is_sorted}
use Rattle.fluent_bundle_entries.specs.EntryView.{ids}
use Rattle.fluent_c_handles.specs.Answers.{Code, bundle_view}

pub ids_rise : (bundle : Code) → T (is_sorted (slice_cmp nat_cmp) (bundle_view bundle).ids)
unfolding ids
ids_rise bundle = entries_sorted _
