use Rattle.std.proofs.Common.{◌≡◌, drop}
use Rattle.fluent_places.specs.Asked.{texts}
use Rattle.fluent_patterns.specs.Names.{is_one_of}
use Rattle.fluent_patterns.proofs.names.is_one_of.Given as goal

abbrev pub invariant-loop-other : goal.invariant-loop-other
invariant-loop-other l = is_one_of (texts (drop l.other-index l.names)) l.name ≡ is_one_of (texts l.names) l.name
