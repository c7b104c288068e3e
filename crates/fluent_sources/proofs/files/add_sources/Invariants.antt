use Rattle.std.proofs.Common.{◌≡◌, ◌++◌, drop, length}
use Rattle.fluent_sources.specs.ReadFiles.{files_in, files_with}
use Rattle.fluent_sources.specs.Reading.{junk_read}
use Rattle.fluent_sources.proofs.files.add_sources.Given as goal

abbrev pub invariant-loop-index : goal.invariant-loop-index
invariant-loop-index l =
    files_in l.files ++ files_with (length l.files.items) (drop l.index l.resource-items) (drop l.index (junk_read l.sources))
    ≡ files_in l.initial.files ++ files_with (length l.initial.files.items) l.resource-items (junk_read l.sources)
