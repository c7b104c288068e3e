-- Ids and names of attributes that can't be had where they stand.
use Rattle.std.specs.Prelude.{◌≡◌, Bool, true, false, List, [], ◌∷◌, ◌++◌, Option, Some, None, bytes_eq, codes, if◌then◌else◌}
use Rattle.std.specs.List.{list_any}
use Rattle.fluent_ast.specs.Tree.{Text, Attribute, no_attribute, attribute}
use Rattle.fluent_places.specs.Places.{Place, of_message, of_term}
use Rattle.fluent_patterns.specs.Found.{Found, whole, function_id, repeated_attribute}
use Rattle.fluent_sources.specs.Standing.{Standing, found_at}

-- ---- ids of functions

abbrev pub is_number_id : Text → Attribute → Bool
is_number_id id no_attribute = bytes_eq id (codes "NUMBER")
is_number_id id (attribute a) = false

-- the value of an entry with the id of the built-in function
abbrev pub is_function_id : Place → Bool
is_function_id (of_message id a) = is_number_id id a
is_function_id (of_term id a) = is_number_id id a

abbrev pub function_ids : List Standing → List Found
function_ids [] = []
function_ids (s ∷ ss) =
    (if is_function_id s.1.place then found_at s whole function_id ∷ [] else []) ++ function_ids ss

-- ---- names of attributes

abbrev pub name_of : Attribute → Option Text
name_of no_attribute = None
name_of (attribute a) = Some a

abbrev pub attribute_in : Place → Option Text
attribute_in (of_message id a) = name_of a
attribute_in (of_term id a) = name_of a

abbrev pub is_among : Text → List Text → Bool
is_among name names = list_any (bytes_eq name) names

-- what is told of an attribute by the names before it
abbrev pub repeated_if : List Text → Text → Standing → List Found
repeated_if names name s = if is_among name names then found_at s whole repeated_attribute ∷ [] else []

-- the names of an entry's attributes up to here, by those before
abbrev pub names_with : List Text → Option Text → List Text
names_with names None = []
names_with names (Some name) = if is_among name names then names else names ++ name ∷ []

abbrev pub repeated_at : List Text → Option Text → Standing → List Found
repeated_at names None s = []
repeated_at names (Some name) s = repeated_if names name s

-- Attributes whose entry has one of their name before. A value begins an entry anew.
abbrev pub repeated_attributes : List Text → List Standing → List Found
repeated_attributes names [] = []
repeated_attributes names (s ∷ ss) =
    repeated_at names (attribute_in s.1.place) s ++ repeated_attributes (names_with names (attribute_in s.1.place)) ss
