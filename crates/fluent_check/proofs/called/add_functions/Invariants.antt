use Rattle.std.proofs.Common.{◌≡◌, drop}
use Rattle.fluent_places.specs.Asked.{texts}
use Rattle.fluent_check.specs.Bundles.{bundle_view}
use Rattle.fluent_check.specs.Called.{with_functions}
use Rattle.fluent_check.proofs.called.add_functions.Given as goal

abbrev pub invariant-loop-id : goal.invariant-loop-id
invariant-loop-id l =
    with_functions (texts (drop l.id-index l.ids)) (bundle_view l.bundle) ≡ with_functions (texts l.ids) (bundle_view l.initial.bundle)
