use Rattle.std.proofs.Common.{◌≡◌, take}
use Rattle.fluent_places.specs.Places.{views}
use Rattle.fluent_lint.specs.Lints.{places_in_resources}
use Rattle.fluent_lint.proofs.sources.places_in.Given as goal

abbrev pub invariant-loop-resource : goal.invariant-loop-resource
invariant-loop-resource l = views l.places.items ≡ places_in_resources (take l.resource-index l.resources)
