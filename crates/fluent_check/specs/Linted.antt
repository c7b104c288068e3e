-- What the linter says of a bundle of files.
use Rattle.std.specs.Prelude.{◌≡◌, Bool, true, false, List, [], ◌∷◌, ◌++◌}
use Rattle.std.specs.List.{AllByRecursion}
use Rattle.std.specs.declared.vec.Vec.{Vec}
use Rattle.std.proofs.Common.{Global}
use Rattle.fluent_ast.specs.Tree.{Text, Entry}
use Rattle.fluent_semantics.specs.Bundle.{Bundle}
use Rattle.fluent_places.specs.Places.{Place, names_of, places_in, views}
use Rattle.fluent_clean.specs.Clean.{NeverFails}
use Rattle.fluent_clean.specs.Findings.{AreFindingsOf}
use Rattle.fluent_clean.specs.declared.finding.Finding.{Finding}
use Rattle.fluent_places.specs.declared.place.Place as code_place
use Rattle.fluent_patterns.specs.Found.{Problem, too_many_placeables}
use Rattle.fluent_check.specs.Tried.{ReachesLimit, is_shown}
use Rattle.fluent_check.specs.Whole.{whole_problems, wholes}
use Rattle.fluent_check.specs.declared.linted.Linted as code

-- the values and attributes of files, by the entries of each
abbrev pub places_of : List (List Entry) → List Place
places_of [] = []
places_of (entries ∷ files) = places_in entries ++ places_of files

-- places were added, these and no other
abbrev pub AddsPlaces : List Place → Vec code_place.Place Global → Vec code_place.Place Global → Type 0
AddsPlaces more old new = views new.items ≡ views old.items ++ more

-- In a bundle none of the values and attributes of files ever shows an error, for all arguments that give what it asks for.
abbrev pub NoneFails : Bundle Text → List (List Entry) → Type 0
NoneFails bundle files = AllByRecursion (NeverFails bundle) (places_of files)

-- ---- the linter's list

-- these are the linter's findings of a bundle of files
abbrev pub AreLinted : Bundle Text → List (List Entry) → List Finding → Type 0
AreLinted bundle files found = AreFindingsOf (names_of bundle) bundle.limit (places_of files) found

abbrev pub is_none : List Finding → Bool
is_none [] = true
is_none (f ∷ fs) = false

-- What is told of such a list: the problems of whole places, and whether it is empty.
pub record IsLinted (bundle : Bundle Text) (files : List (List Entry)) (linted : code.Linted) : Type 0 where
  pub list : List Finding
  pub are : AreLinted bundle files list
  pub problems : wholes linted.problems.items ≡ whole_problems (is_shown bundle) list
  pub clean : linted.is_clean ≡ is_none list

-- ---- errors of too many placeables

-- such an error has arguments that show it
abbrev pub IsShownIfLarge : Bundle Text → Place → Problem → Type 0
IsShownIfLarge bundle x (too_many_placeables count limit) = ReachesLimit bundle x
IsShownIfLarge bundle x problem = Unit {0}

-- so does each that is told of the linter's findings
abbrev pub LargeErrorsAreShown : Type 0
LargeErrorsAreShown =
    (bundle : Bundle Text) (list : List Finding) → AllByRecursion (λ w. IsShownIfLarge bundle w.0 w.1) (whole_problems (is_shown bundle) list)
