-- How places of a bundle are gathered, and looked up.
use Rattle.std.specs.Prelude.{◌≡◌, ℕ, List, ◌∷◌, ◌++◌, map, Option, Some, None, position, slice_get}
use Rattle.std.specs.Option.{option_and_then}
use Rattle.fluent_ast.specs.Tree.{Text}
use Rattle.fluent_places.specs.Places.{Place, Names}
use Rattle.fluent_differences.specs.Among.{same_place}
use Rattle.fluent_check.specs.Places.{first_places, keys_of, place_of}
use Rattle.fluent_sources.specs.Standing.{Standing, standings}
use Rattle.fluent_check.specs.declared.places.Places.{Places}

-- one more is gone over, whatever comes after it
pub record AddsPlace (named : Names Text) (s : Standing) (old new : Places) : Type 0 where
  pub rest : (ss : List Standing) → standings new.list ++ first_places named (keys_of new) ss ≡ standings old.list ++ first_places named (keys_of old) (s ∷ ss)
  pub keys : keys_of old ≡ map place_of (standings old.list) → keys_of new ≡ map place_of (standings new.list)

-- what has the index that the place has among the keys
abbrev pub place_found : Places → Place → Option Standing
place_found p x = option_and_then (λ i. slice_get (standings p.list) i) (position (same_place x) (keys_of p))
