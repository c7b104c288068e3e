-- Slots: each id that was seen, in order, with what it names, if anything.
use Rattle.std.specs.Prelude.{ℕ, List, [], ◌∷◌, ◌++◌, map, position, slice_get, Option, Some, None, is_some, if◌then◌else◌}
use Rattle.std.specs.Cow.{cow_str_bytes}
use Rattle.std.specs.Map.{lookup, keys_of}
use Rattle.std.specs.Option.{option_map}
use Rattle.std.specs.Str.{bytes_eq}
use Rattle.indexmap.specs.IndexMap.{spare}
use Rattle.fluent_ast.specs.Tree.{Text}
use Rattle.fluent_references.specs.declared.slots.Slots.{Slots}

unfoldable pub slots : {X : Type 0} → Slots X → List (Text × Option X)
slots s = map (λ e. (cow_str_bytes e.0, e.1)) s.ids.entries

-- how many more ids there is room for
abbrev pub room : {X : Type 0} → Slots X → ℕ
room s = spare s.ids

-- the index of an id among them
abbrev pub number : {X : Type 0} → List (Text × Option X) → Text → Option ℕ
number ss id = position (bytes_eq id) (keys_of ss)

abbrev pub flat : {X : Type 0} → Option (Option X) → Option X
flat None = None
flat (Some slot) = slot

-- what an id names
abbrev pub named : {X : Type 0} → Text → List (Text × Option X) → Option X
named id ss = flat (lookup (bytes_eq id) ss)

-- what stands in the slot of a number
abbrev pub slot_at : {X : Type 0} → ℕ → List (Text × Option X) → Option X
slot_at n ss = flat (option_map (λ s. s.1) (slice_get ss n))

-- with an empty slot for an id that has none
abbrev pub with_slot : {X : Type 0} → Text → List (Text × Option X) → List (Text × Option X)
with_slot id ss = if is_some (number ss id) then ss else ss ++ (id, None) ∷ []
