use Rattle.std.proofs.Common.{◌≡◌, filter, map, take}
use Rattle.fluent_places.specs.NeedsView.{need_view, needs_view}
use Rattle.fluent_differences.specs.Compared.{is_reference}
use Rattle.fluent_differences.proofs.compared.references_of.Given as goal

abbrev pub invariant-loop-need : goal.invariant-loop-need
invariant-loop-need l = needs_view l.list ≡ filter is_reference (map need_view (take l.need-index l.need-items))
