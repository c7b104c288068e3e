-- What is found in a group, part by part.
use Rattle.std.specs.Prelude.{◌≡◌, Bool, List, [], ◌∷◌, ◌++◌, map}
use Rattle.std.specs.List.{AllByRecursion}
use Rattle.std.specs.declared.vec.Vec.{Vec}
use Rattle.std.proofs.Common.{Global}
use Rattle.fluent_ast.specs.Tree.{Text}
use Rattle.fluent_semantics.specs.Bundle.{Bundle}
use Rattle.fluent_places.specs.Asked.{texts}
use Rattle.fluent_places.specs.Places.{Place, Names}
use Rattle.fluent_clean.specs.declared.finding.Finding as lint
use Rattle.fluent_patterns.specs.Categories.{Categories}
use Rattle.fluent_patterns.specs.Found as found
use Rattle.fluent_patterns.specs.Found.{found_in}
use Rattle.fluent_patterns.specs.Terms.{TellsAskedAt}
use Rattle.fluent_patterns.specs.declared.finding.Finding.{Finding}
use Rattle.fluent_check.specs.Called.{with_functions}
use Rattle.fluent_check.specs.Differences.{AreAllDifferences, AreDifferences}
use Rattle.fluent_sources.specs.Groups.{Group, entries_loaded}
use Rattle.fluent_check.specs.Linted.{AreLinted, is_none}
use Rattle.fluent_check.specs.Looks.{IsLook, Look, found_in_looks, none_listed}
use Rattle.fluent_check.specs.Patterns.{called_in, found_in_patterns, found_selects}
use Rattle.fluent_check.specs.Places.{first_at, place_of}
use Rattle.fluent_sources.specs.Standing.{Standing}
use Rattle.fluent_check.specs.Tried.{is_shown}
use Rattle.fluent_check.specs.Whole.{found_wholes, whole_problems}
use Rattle.fluent_check.specs.declared.checking.Settings.{Settings}

-- what is wrong in the patterns of places
pub record AddsPatterns (named there : Names Text) (functions : List Text) (c : Categories) (ss : List Standing) (old new : Vec Finding Global) : Type 0 where
  pub asks : Place → Text → Bool
  pub right : AllByRecursion (TellsAskedAt named asks) (map place_of ss)
  pub found_is : found_in new ≡ found_in old ++ (found_in_patterns (record { named = named; functions = functions; asks = asks }) ss ++ found_selects named there c ss)

-- the same, where the application adds the functions of settings
abbrev pub AddsPatternsBy : Settings → Names Text → Names Text → Categories → List Standing → Vec Finding Global → Vec Finding Global → Type 0
AddsPatternsBy settings named there c ss = AddsPatterns named there (texts settings.functions.now) c ss

-- the differences from references, where there are any
pub record AddsAllDifferences (g : Group) (named : Names Text) (ss : List Standing) (old new : Vec Finding Global) : Type 0 where
  pub differences : List found.Found
  pub right : AreAllDifferences g named ss differences
  pub found_is : found_in new ≡ found_in old ++ differences

-- the differences from references
pub record AddsDifferences (g : Group) (named : Names Text) (ss : List Standing) (old new : Vec Finding Global) : Type 0 where
  pub differences : List found.Found
  pub right : AreDifferences g named ss differences
  pub found_is : found_in new ≡ found_in old ++ differences

-- what the linter lists, and whether it lists nothing
pub record AddsLinted (bundle : Bundle Text) (named : Names Text) (ss : List Standing) (g : Group) (old new : Vec Finding Global) (clean : Bool) : Type 0 where
  pub list : List lint.Finding
  pub right : AreLinted (with_functions (called_in named ss) bundle) (entries_loaded g) list
  pub found_is : found_in new ≡ found_in old ++ found_wholes (λ x. first_at x ss) (whole_problems (is_shown (with_functions (called_in named ss) bundle)) list)
  pub clean_is : clean ≡ is_none list

-- what is found in groups, and whether the linter lists nothing in any of them
pub record AddsLooks (settings : Settings) (gs : List Group) (old new : Vec Finding Global) (clean : Bool) : Type 0 where
  pub looks : List Look
  pub groups : map (λ look. look.group) looks ≡ gs
  pub right : AllByRecursion (IsLook settings) looks
  pub found_is : found_in new ≡ found_in old ++ found_in_looks settings looks
  pub clean_is : clean ≡ none_listed looks
