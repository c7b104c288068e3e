-- Files of which nothing ever shows an error.
use Rattle.std.specs.Prelude.{◌&&◌, not, List, [], ◌∷◌, ◌++◌, Option, Some, None, codes, if◌then◌else◌}
use Rattle.std.specs.Borrow.{Bor}
use Rattle.std.specs.List.{AllByRecursion}
use Rattle.fluent_ast.specs.Tree.{Text, Entry}
use Rattle.fluent_semantics.specs.Bundle.{Bundle}
use Rattle.fluent_places.specs.Places.{Place, Names, names_of, place_target}
use Rattle.fluent_differences.specs.Among.{is_at}
use Rattle.fluent_check.specs.Called.{with_functions}
use Rattle.fluent_check.specs.Languages.{all_of}
use Rattle.fluent_check.specs.Linted.{NoneFails, places_of}
use Rattle.fluent_check.specs.Patterns.{called_if}
use Rattle.fluent_check.specs.Places.{stands}
use Rattle.fluent_sources.specs.declared.groups.Grouping.{Grouping}
use Rattle.fluent_sources.specs.declared.groups.Grouping.TheVariants.{Together, Each, Pairs}

-- The functions that the patterns at places call, of each place the first time; these places are passed already.
abbrev pub called_by : Names Text → List Place → List Place → List Text
called_by named seen [] = []
called_by named seen (x ∷ xs) =
    if stands named x && not (is_at x seen)
    then called_if (place_target named x) ++ called_by named (seen ++ x ∷ []) xs
    else called_by named seen xs

-- the bundle of files, by the tag of their language, with each function that they call
abbrev pub calling_all : Text → List (List Entry) → Bundle Text
calling_all tag files = with_functions (called_by (names_of (all_of tag files)) [] (places_of files)) (all_of tag files)

-- In that bundle none of the values and attributes of the files ever shows an error.
pub record AreFaultless (tag : Text) (files : List (List Entry)) : Type 0 where
  pub none : NoneFails (calling_all tag files) files

-- so it is with a file, and those beside it
abbrev pub IsFaultless : Text → List (List Entry) → List Entry → Type 0
IsFaultless tag beside entries = AreFaultless tag (beside ++ entries ∷ [])

-- files that count as one source, or each for itself, and those beside them
abbrev pub AreFaultlessBy : Grouping → Text → List (List Entry) → List (List Entry) → Type 0
AreFaultlessBy Together tag beside files = AreFaultless tag (beside ++ files)
AreFaultlessBy Each tag beside files = AllByRecursion (IsFaultless tag beside) files
AreFaultlessBy Pairs tag beside files = AllByRecursion (IsFaultless tag beside) files

-- the language, else English
abbrev pub tag_of : Option (Bor Text) → Text
tag_of None = codes "en"
tag_of (Some tag) = tag.now
