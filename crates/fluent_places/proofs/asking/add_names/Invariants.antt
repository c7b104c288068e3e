use Rattle.std.proofs.Common.{take}
use Rattle.fluent_places.specs.Asked.{texts}
use Rattle.fluent_places.specs.Inside.Reached.{AddsNames}
use Rattle.fluent_places.proofs.asking.add_names.Given as goal

abbrev pub invariant-loop-name : goal.invariant-loop-name
invariant-loop-name l = AddsNames (texts (take l.name-index l.name-items)) (texts l.initial.names.keys) (texts l.names.keys)
