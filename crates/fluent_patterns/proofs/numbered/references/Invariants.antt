use Rattle.std.proofs.Common.{◌≡◌, ◌++◌, drop, map}
use Rattle.std.specs.List.{filter}
use Rattle.fluent_places.specs.NeedsView.{need_view, needs_view}
use Rattle.fluent_patterns.specs.Numbered.{is_reference}
use Rattle.fluent_patterns.proofs.numbered.references.Given as goal

abbrev pub invariant-loop-need : goal.invariant-loop-need
invariant-loop-need l =
    needs_view l.list ++ filter is_reference (map need_view (drop l.need-index l.need-items))
    ≡ filter is_reference (map need_view l.need-items)
