use Rattle.std.proofs.Common.{◌≡◌, ◌++◌, drop, map}
use Rattle.fluent_places.specs.Asked.{texts}
use Rattle.fluent_check.specs.Bundles.{bundle_view, resource_bundle}
use Rattle.fluent_sources.specs.Reading.{entries_of_all}
use Rattle.fluent_check.proofs.bundle.bundles_of.Given as goal

abbrev pub invariant-loop-resource : goal.invariant-loop-resource
invariant-loop-resource l =
    map bundle_view l.bundles.items ++ map (resource_bundle l.tag (texts l.functions) (entries_of_all l.beside)) (drop l.resource-index l.resources)
    ≡ map (resource_bundle l.tag (texts l.functions) (entries_of_all l.beside)) l.resources
