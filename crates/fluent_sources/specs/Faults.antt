-- What can't be read in files, and which ids can't be had, each file for itself.
use Rattle.std.specs.Prelude.{List, [], ◌∷◌, ◌++◌}
use Rattle.fluent_patterns.specs.Found.{Found}
use Rattle.fluent_sources.specs.ReadFiles.{ReadFile}
use Rattle.fluent_sources.specs.Repeated.{function_ids}
use Rattle.fluent_sources.specs.Standing.{standings_in}
use Rattle.fluent_sources.specs.Taken.{taken}
use Rattle.fluent_sources.specs.Unreadable.{unreadable}

-- ids that stand in the file before, and that of a function
abbrev pub ids_in : ReadFile → List Found
ids_in file = taken [] (standings_in (file ∷ [])) ++ function_ids (standings_in (file ∷ []))

abbrev pub ids_of : List ReadFile → List Found
ids_of [] = []
ids_of (file ∷ files) = ids_in file ++ ids_of files

abbrev pub faults_of : List ReadFile → List Found
faults_of files = unreadable files ++ ids_of files
