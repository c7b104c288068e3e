-- Entries whose id stands before them. A message and a term may share an id, since they share one map of ids.
use Rattle.std.specs.Prelude.{◌≡◌, List, [], ◌∷◌, ◌++◌, Option, Some, None, bytes_eq}
use Rattle.std.specs.Map.{lookup}
use Rattle.fluent_ast.specs.Tree.{Text, Attribute, no_attribute, attribute}
use Rattle.fluent_places.specs.Places.{Place, of_message, of_term}
use Rattle.fluent_patterns.specs.Found.{Found, Spot, whole, taken_id}
use Rattle.fluent_sources.specs.Standing.{Standing, found_at, spot_of}

abbrev pub id_if : Text → Attribute → Option Text
id_if id no_attribute = Some id
id_if id (attribute a) = None

-- the id of the entry of which a place is the value
abbrev pub id_in : Place → Option Text
id_in (of_message id a) = id_if id a
id_in (of_term id a) = id_if id a

-- where the first entry of each id stands
abbrev pub Firsts : Type 0
Firsts = List (Text × Spot)

abbrev pub first_of : Text → Firsts → Option Spot
first_of id firsts = lookup (bytes_eq id) firsts

abbrev pub taken_if : Option Spot → Standing → List Found
taken_if None s = []
taken_if (Some first) s = found_at s whole (taken_id first) ∷ []

abbrev pub noted : Option Spot → Text → Standing → Firsts → Firsts
noted None id s firsts = firsts ++ (id, spot_of s) ∷ []
noted (Some first) id s firsts = firsts

-- what is told of a value or an attribute by the ids before it, and what is noted of it
abbrev pub taken_at : Option Text → Standing → Firsts → List Found
taken_at None s firsts = []
taken_at (Some id) s firsts = taken_if (first_of id firsts) s

abbrev pub firsts_with : Option Text → Standing → Firsts → Firsts
firsts_with None s firsts = firsts
firsts_with (Some id) s firsts = noted (first_of id firsts) id s firsts

-- the values whose id stands among the first ones, or again among these
abbrev pub taken : Firsts → List Standing → List Found
taken firsts [] = []
taken firsts (s ∷ ss) =
    taken_at (id_in s.1.place) s firsts ++ taken (firsts_with (id_in s.1.place) s firsts) ss
