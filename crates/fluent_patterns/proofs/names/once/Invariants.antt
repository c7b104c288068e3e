use Rattle.std.proofs.Common.{◌≡◌, drop}
use Rattle.indexmap.specs.IndexSet.{insert_all}
use Rattle.fluent_semantics.specs.Number.{is_text}
use Rattle.fluent_places.specs.Asked.{texts}
use Rattle.fluent_patterns.specs.Names.{once}
use Rattle.fluent_patterns.proofs.names.once.Given as goal

abbrev pub invariant-loop-name : goal.invariant-loop-name
invariant-loop-name l = insert_all is_text (texts l.set.keys) (texts (drop l.name-index l.names)) ≡ once (texts l.names)
