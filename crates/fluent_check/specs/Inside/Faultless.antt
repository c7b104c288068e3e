-- Groups of files of which nothing ever shows an error.
use Rattle.std.specs.Prelude.{List, [], ◌∷◌, ◌++◌}
use Rattle.std.specs.List.{AllByRecursion}
use Rattle.fluent_ast.specs.Tree.{Text}
use Rattle.fluent_semantics.specs.Bundle.{Bundle}
use Rattle.fluent_places.specs.Places.{names_of}
use Rattle.fluent_check.specs.Called.{with_functions}
use Rattle.fluent_sources.specs.Groups.{Group, loaded}
use Rattle.fluent_check.specs.Languages.{all_of}
use Rattle.fluent_check.specs.Linted.{NoneFails}
use Rattle.fluent_check.specs.Patterns.{called_in}
use Rattle.fluent_check.specs.Places.{places_of}
use Rattle.fluent_sources.specs.ReadFiles.{ReadFile, entries_in}
use Rattle.fluent_sources.specs.Standing.{Standing, standings_in}
use Rattle.fluent_sources.specs.declared.groups.Grouping.{Grouping}
use Rattle.fluent_sources.specs.declared.groups.Grouping.TheVariants.{Together, Each, Pairs}

-- a bundle with each function that the patterns of places call
abbrev pub calling : Bundle Text → List Standing → Bundle Text
calling b ss = with_functions (called_in (names_of b) ss) b

abbrev pub calling_files : Text → List ReadFile → Bundle Text
calling_files tag files =
    let b = all_of tag (entries_in files) in calling b (places_of (names_of b) (standings_in files))

pub record AreFaultlessFiles (tag : Text) (files : List ReadFile) : Type 0 where
  pub none : NoneFails (calling_files tag files) (entries_in files)

-- of a file, and those beside it
abbrev pub IsFaultlessBeside : Text → List ReadFile → ReadFile → Type 0
IsFaultlessBeside tag beside file = AreFaultlessFiles tag (beside ++ file ∷ [])

abbrev pub AreEachFaultless : Text → Group → Type 0
AreEachFaultless tag g = AllByRecursion (IsFaultlessBeside tag g.beside) g.own

-- of a group, or of the groups that its own files make
abbrev pub IsFaultlessBy : Grouping → Text → Group → Type 0
IsFaultlessBy Together tag g = AreFaultlessFiles tag (loaded g)
IsFaultlessBy Each tag g = AreEachFaultless tag g
IsFaultlessBy Pairs tag g = AreEachFaultless tag g
