use Rattle.std.proofs.Common.{◌≡◌, ◌++◌, drop, map}
use Rattle.fluent_places.specs.Asked.{texts}
use Rattle.fluent_places.specs.NeedsView.{need_view}
use Rattle.fluent_check.specs.Called.{functions_in}
use Rattle.fluent_check.proofs.called.add_called.Given as goal

abbrev pub invariant-loop-need : goal.invariant-loop-need
invariant-loop-need l =
    texts l.ids.items ++ functions_in (map need_view (drop l.need-index l.need-items))
    ≡ texts l.initial.ids.items ++ functions_in (map need_view l.need-items)
