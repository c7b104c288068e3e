use Rattle.std.proofs.Common.{◌≡◌, map, take}
use Rattle.fluent_answers.specs.ArgumentView.{argument_view}
use Rattle.fluent_places.specs.Asked.{texts}
use Rattle.fluent_c_check.specs.Checks.{names_of}
use Rattle.fluent_c_check.proofs.found.names_in.Given as goal

abbrev pub invariant-loop-record : goal.invariant-loop-record
invariant-loop-record l = texts l.names.items ≡ names_of (map argument_view (take l.record-index l.records))
