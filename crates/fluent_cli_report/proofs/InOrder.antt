-- Findings that were sorted by file and byte are in order.
use Rattle.std.proofs.Common.{◌≡◌, ℕ, List, map, ap, ◌∙◌}
use Rattle.std.proofs.lemmas.List.Sorted.{ranks_by}
use Rattle.std.specs.Cmp.{IsStrictWeakOrder, nat_cmp_total, on_total, then_total}
use Rattle.std.specs.List.Sorted.{IsSortedByKey, IsStableByKey}
use Rattle.std.specs.declared.cmp.Ordering.{Ordering}
use Rattle.std.specs.Ordering.{is_lt, nat_cmp, ordering_then}
use Rattle.fluent_patterns.specs.Found.{found_view}
use Rattle.fluent_patterns.specs.declared.finding.Finding.{Finding}
use Rattle.fluent_cli_report.specs.Rows.{in_order, is_before}
use Rattle.fluent_cli_report.proofs.Sorted.{is_sorted_by, map_sorted}

abbrev pub key_of : Finding → ℕ × ℕ
key_of f = (f.spot.file, f.spot.at)

abbrev pub by_both : ℕ × ℕ → ℕ × ℕ → Ordering
by_both x y = ordering_then (nat_cmp x.0 y.0) (nat_cmp x.1 y.1)

weak : IsStrictWeakOrder (λ (f g : Finding). is_lt (by_both (key_of f) (key_of g)))
weak = ranks_by {R = by_both} (then_total (on_total (λ (t : ℕ × ℕ). t.0) nat_cmp_total) (on_total (λ (t : ℕ × ℕ). t.1) nat_cmp_total)) key_of

pub put_in_order : (xs ys : List Finding) → IsSortedByKey key_of by_both ys → IsStableByKey key_of by_both xs ys → map found_view ys ≡ in_order (map found_view xs)
put_in_order xs ys up stable =
    ap (map found_view) (is_sorted_by (λ f g. is_lt (by_both (key_of f) (key_of g))) weak xs ys up stable)
    ∙ map_sorted found_view is_before xs
