-- The values and attributes that stand in a bundle, each where it stands first.
use Rattle.std.specs.Prelude.{◌≡◌, ◌&&◌, not, Bool, true, false, List, [], ◌∷◌, ◌++◌, map, Option, Some, None, if◌then◌else◌}
use Rattle.fluent_ast.specs.Tree.{Text}
use Rattle.fluent_semantics.specs.Bundle.{Target, unknown, without_value, found}
use Rattle.fluent_places.specs.Places.{Place, Names, place_target, views}
use Rattle.fluent_differences.specs.Among.{is_at, same_place}
use Rattle.fluent_sources.specs.Standing.{Standing, standings}
use Rattle.fluent_check.specs.declared.places.Places as code

abbrev pub is_found : Target → Bool
is_found unknown = false
is_found without_value = false
is_found (found p) = true

-- a pattern stands there
abbrev pub stands : Names Text → Place → Bool
stands named x = is_found (place_target named x)

abbrev pub place_of : Standing → Place
place_of s = s.1.place

-- Those at whose place a pattern stands, of each place the first; these places are passed already.
abbrev pub first_places : Names Text → List Place → List Standing → List Standing
first_places named seen [] = []
first_places named seen (s ∷ ss) =
    if stands named (place_of s) && not (is_at (place_of s) seen)
    then s ∷ first_places named (seen ++ place_of s ∷ []) ss
    else first_places named seen ss

-- those of a bundle
abbrev pub places_of : Names Text → List Standing → List Standing
places_of named ss = first_places named [] ss

-- where a place stands first
abbrev pub first_at : Place → List Standing → Option Standing
first_at x [] = None
first_at x (s ∷ ss) = if same_place x (place_of s) then Some s else first_at x ss

-- ---- of the code

abbrev pub keys_of : code.Places → List Place
keys_of p = views p.keys.keys

-- these are the places of a bundle, and the keys are their places
pub record ArePlaces (named : Names Text) (ss : List Standing) (p : code.Places) : Type 0 where
  pub list : standings p.list ≡ places_of named ss
  pub keys : keys_of p ≡ map place_of (standings p.list)
