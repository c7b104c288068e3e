-- What is known of the places that are looked at.
use Rattle.std.specs.Prelude.{◌≡◌, ℕ, List, Option, Some, IfSome}
use Rattle.std.specs.Map.{lookup}
use Rattle.indexmap.specs.IndexMap.{IndexMap}
use Rattle.fluent_ast.specs.Tree.{is_yes}
use Rattle.fluent_places.specs.Places.{Place, place_same, place_view, Names}
use Rattle.fluent_places.specs.Needs.{Need, place_of}
use Rattle.fluent_places.specs.declared.place.Place as code
use Rattle.fluent_clean.specs.Clean.{IsMet}
use Rattle.fluent_clean.specs.Findings.{CountsAs, IsRight}

-- each place once; how many placeables its pattern opens, if it was found clean
abbrev pub Known : Type 0
Known = List (code.Place × Option ℕ)

-- nothing of a place that isn't there
abbrev pub known_of : Known → Place → Option (Option ℕ)
known_of known x = lookup (λ k. is_yes (place_same x (place_view k))) known

abbrev pub count_in : Option (Option ℕ) → ℕ
count_in (Some (Some n)) = n
count_in _ = 0

-- the count of a place, or 0 where none is known
abbrev pub count_of : Known → Place → ℕ
count_of known x = count_in (known_of known x)

-- those of a table of the code
abbrev pub counts : {S : Type 0} → IndexMap code.Place (Option ℕ) S → Place → ℕ
counts table = count_of table.entries

abbrev pub AreRight : {C : Type 0} → Names C → Known → Type 0
AreRight named known = (q : code.Place) (k : ℕ) → known_of known (place_view q) ≡ Some (Some k) → IsRight named (place_view q) k

-- the count of what a need refers to is that which is known
abbrev pub IsCounted : {C : Type 0} → Names C → Known → Need → Type 0
IsCounted named known n = IfSome (place_of n) (λ x. CountsAs named x (count_of known x))

abbrev pub IsWell : {C : Type 0} → Names C → Known → Need → Type 0
IsWell named known n = IsMet named n × IsCounted named known n
