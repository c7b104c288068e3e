use Rattle.std.proofs.Common.{◌≡◌, ◌++◌, drop, map}
use Rattle.fluent_patterns.specs.Found.{found_in}
use Rattle.fluent_sources.specs.Faults.{ids_of}
use Rattle.fluent_sources.specs.ReadFiles.{file_view}
use Rattle.fluent_sources.proofs.faulty.add_all_ids.Given as goal

abbrev pub invariant-loop-file : goal.invariant-loop-file
invariant-loop-file l =
    found_in l.findings ++ ids_of (map file_view (drop l.file-index l.files)) ≡ found_in l.initial.findings ++ ids_of (map file_view l.files)
