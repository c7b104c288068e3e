use Rattle.std.proofs.Common.{◌≡◌, ◌++◌, drop, map}
use Rattle.fluent_sources.specs.ReadFiles.{file_view}
use Rattle.fluent_sources.specs.Standing.{standings, standings_in}
use Rattle.fluent_sources.proofs.standing.add_files.Given as goal

abbrev pub invariant-loop-file : goal.invariant-loop-file
invariant-loop-file l =
    standings l.list ++ standings_in (map file_view (drop l.file-index l.files))
    ≡ standings l.initial.list ++ standings_in (map file_view l.files)
