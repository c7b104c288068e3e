use Rattle.std.proofs.Common.{◌≡◌, ◌++◌, drop, map}
use Rattle.fluent_patterns.specs.Found.{found_in}
use Rattle.fluent_sources.specs.ReadFiles.{file_view}
use Rattle.fluent_sources.specs.Unreadable.{unreadable}
use Rattle.fluent_sources.proofs.unreadable.unreadable.Given as goal

abbrev pub invariant-loop-file : goal.invariant-loop-file
invariant-loop-file l =
    found_in l.findings ++ unreadable (map file_view (drop l.file-index l.files))
    ≡ unreadable (map file_view l.files)
