use Rattle.std.proofs.Common.{◌≡◌, drop}
use Rattle.fluent_check.specs.Bundles.{bundle_view}
use Rattle.fluent_sources.specs.Reading.{entries_of_all}
use Rattle.fluent_check.specs.Languages.{adding_all}
use Rattle.fluent_check.proofs.bundle.add_resources.Given as goal

abbrev pub invariant-loop-resource : goal.invariant-loop-resource
invariant-loop-resource l =
    adding_all (entries_of_all (drop l.resource-index l.resources)) (bundle_view l.bundle)
    ≡ adding_all (entries_of_all l.resources) (bundle_view l.initial.bundle)
