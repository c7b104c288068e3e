use Rattle.std.proofs.Common.{◌≡◌, drop, map}
use Rattle.fluent_check.specs.Bundles.{bundle_view}
use Rattle.fluent_check.specs.Languages.{adding_all}
use Rattle.fluent_sources.specs.ReadFiles.{entries_in, file_view}
use Rattle.fluent_check.proofs.bundle.add_files.Given as goal

abbrev pub invariant-loop-file : goal.invariant-loop-file
invariant-loop-file l =
    adding_all (entries_in (map file_view (drop l.file-index l.files))) (bundle_view l.bundle)
    ≡ adding_all (entries_in (map file_view l.files)) (bundle_view l.initial.bundle)
