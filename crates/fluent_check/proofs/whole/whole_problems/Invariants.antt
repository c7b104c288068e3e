use Rattle.std.proofs.Common.{◌≡◌, ◌++◌, drop}
use Rattle.std.specs.List.{filter_map}
use Rattle.fluent_check.specs.Bundles.{bundle_view}
use Rattle.fluent_check.specs.Tried.{is_shown}
use Rattle.fluent_check.specs.Whole.{all_lead_on, whole_of, whole_problems, wholes}
use Rattle.fluent_check.proofs.whole.whole_problems.Given as goal

abbrev pub invariant-loop-linted : goal.invariant-loop-linted
invariant-loop-linted l =
    let says = whole_of (is_shown (bundle_view l.bundle)) l.alone in
    wholes l.found.items ++ filter_map says (drop l.linted-index l.list) ≡ filter_map says l.list
