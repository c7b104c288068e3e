use Rattle.std.proofs.Common.{◌≡◌, ◌++◌, drop, map}
use Rattle.fluent_places.specs.Places.{views}
use Rattle.fluent_check.specs.Linted.{places_of}
use Rattle.fluent_sources.specs.ReadFiles.{entries_in, file_view}
use Rattle.fluent_check.proofs.linted.add_places.Given as goal

abbrev pub invariant-loop-file : goal.invariant-loop-file
invariant-loop-file l =
    views l.places.items ++ places_of (entries_in (map file_view (drop l.file-index l.files)))
    ≡ views l.initial.places.items ++ places_of (entries_in (map file_view l.files))
