use Rattle.std.proofs.Common.{◌≡◌, ◌++◌, drop, map}
use Rattle.fluent_ast.specs.View.{entry_view}
use Rattle.fluent_places.specs.Places.{views, places_in}
use Rattle.fluent_places.proofs.entries.places_of.Given as goal

abbrev pub invariant-loop-entry : goal.invariant-loop-entry
invariant-loop-entry l = views l.places.items ++ places_in (map entry_view (drop l.entry-index l.entries)) ≡ places_in (map entry_view l.entries)
