-- Which variables places ask the arguments for.
use Rattle.std.specs.Prelude.{◌≡◌, ◌↔◌, ℕ, List, [], ◌∷◌, map, Option, Some, None, slice_get}
use Rattle.std.specs.Borrow.{Bor}
use Rattle.std.specs.List.{AllByRecursion}
use Rattle.std.specs.Map.{lookup}
use Rattle.std.specs.Option.{option_map}
use Rattle.std.specs.declared.vec.Vec.{Vec}
use Rattle.std.proofs.Common.{Global}
use Rattle.indexmap.specs.IndexSet.{IndexSet}
use Rattle.fluent_ast.specs.Tree.{Text, Pattern, is_yes}
use Rattle.fluent_semantics.specs.Bundle.{found}
use Rattle.fluent_places.specs.Places.{Place, place_same, place_view, Names, place_target}
use Rattle.fluent_places.specs.Needs.{IsAmong, AsksFor}
use Rattle.fluent_places.specs.declared.asked.Asked.{Asked}
use Rattle.fluent_places.specs.declared.place.Place as code

abbrev pub texts : List (Bor Text) → List Text
texts xs = map (λ x. x.now) xs

-- a pattern stands there, and asks for the variable
abbrev pub AsksForAt : Names Text → Place → Text → Type 0
AsksForAt named x v = (p : Pattern) × (place_target named x ≡ found p) × AsksFor named v p

-- these are all that it asks for, and no other
abbrev pub AreAsked : Names Text → Place → List Text → Type 0
AreAsked named x vs = (v : Text) → IsAmong v vs ↔ AsksForAt named x v

-- the same of the code's place and list
abbrev pub AreAskedAt : Names Text → code.Place → Vec (Bor Text) Global → Type 0
AreAskedAt named x vs = AreAsked named (place_view x) (texts vs.items)

-- no element stands there twice
abbrev pub AreDistinct : {A : Type 0} → List A → Type 0
AreDistinct [] = Unit {0}
AreDistinct (x ∷ xs) = (IsAmong x xs → ⊥) × AreDistinct xs

-- ---- lists that places share

-- which list is that of a place
abbrev pub index_of : Asked → Place → Option ℕ
index_of a x = lookup (λ k. is_yes (place_same x (place_view k))) a.indexes.entries

abbrev pub list_at : {S : Type 0} → List (IndexSet (Bor Text) S) → Option ℕ → Option (List (Bor Text))
list_at lists None = None
list_at lists (Some k) = option_map (λ l. l.keys) (slice_get lists k)

-- the list of a place
abbrev pub list_of : Asked → Place → Option (List (Bor Text))
list_of a x = list_at a.lists.items (index_of a x)

-- its list is there, and has all that the place asks for and no other, each once
abbrev pub IsAskedIn : Names Text → Asked → Place → Type 0
IsAskedIn named a x = (l : List (Bor Text)) × (list_of a x ≡ Some l) × AreAsked named x (texts l) × AreDistinct (texts l)

-- so it is of each of these places
abbrev pub AreAskedIn : Names Text → List Place → Asked → Type 0
AreAskedIn named xs a = AllByRecursion (IsAskedIn named a) xs
