-- What is seen while the entries of a resource are gone over.
use Rattle.std.specs.Prelude.{◌≡◌, ℕ, suc, ◌||◌, Bool, List, [], ◌∷◌, ◌++◌, map, is_some, bytes_eq}
use Rattle.std.specs.List.{list_any}
use Rattle.std.specs.Borrow.{Bor}
use Rattle.fluent_ast.specs.Tree.{Text, Entry}
use Rattle.fluent_semantics.specs.Arguments.{Map, get}
use Rattle.fluent_semantics.specs.Bundle as m
use Rattle.fluent_semantics.specs.Bundle.{Function, add_free, added, error_if_taken, not_added}
use Rattle.fluent_semantics.specs.Errors.{Error, Kind}
use Rattle.fluent_bundle_entries.specs.EntryView.{ids}
use Rattle.fluent_bundle_entries.specs.ErrorView.{error_view}
use Rattle.fluent_bundle_entries.specs.declared.ids.Ids.{Ids}
use Rattle.fluent_c_handles.specs.Calls.Adding.{placed}
use Rattle.fluent_c_handles.specs.declared.left.Left.{Left}
use Rattle.fluent_c_handles.specs.declared.left.Seen.{Seen}

-- which entry is left, and its error
abbrev pub left_view : Left → ℕ × Error
left_view l = (l.entry, error_view l.error)

-- the errors of adding entries, in order, each with the index of its entry, of which the first is this
abbrev pub left_from : {C : Type 0} → ℕ → List Entry → Map (m.Entry C) → List (ℕ × Error)
left_from k [] ids = []
left_from k (e ∷ es) ids = placed k (not_added (e ∷ []) ids) ++ left_from (suc k) es (added (e ∷ []) ids)

-- the ids that were seen
abbrev pub Earlier : Type 0
Earlier = List (Bor Text)

-- an id names something now where it did at first, or was seen since
abbrev pub AreKnown : Map (m.Entry Text) → Earlier → Map (m.Entry Text) → Type 0
AreKnown first seen now = (q : Bor Text) → is_some (get q.now now) ≡ (is_some (get q.now first) || list_any (λ k. bytes_eq q.now k.now) seen)

-- whether an id is taken was told, and it is seen now, whatever its entry is
abbrev pub TellsTaken : {F : Type 0} → Ids F → Text → Bool → Earlier → Earlier → Type 0
TellsTaken {F} known id taken old new = (answer : F → Function Text) (now : Map (m.Entry Text)) → AreKnown (ids answer known) old now →
    (taken ≡ is_some (get id now)) × ((x : m.Entry Text) → AreKnown (ids answer known) new (add_free id x now))

-- an entry with this index, kind and id is gone over, whatever it is
abbrev pub GoesOverId : {F : Type 0} → Ids F → ℕ → Kind → Text → Seen → Seen → Type 0
GoesOverId {F} known k kind id old new = (answer : F → Function Text) (now : Map (m.Entry Text)) → AreKnown (ids answer known) old.earlier.keys now →
    ((x : m.Entry Text) → AreKnown (ids answer known) new.earlier.keys (add_free id x now))
    × (map left_view new.left.items ≡ map left_view old.left.items ++ placed k (error_if_taken kind id now))

-- these entries are gone over, of which the first has this index
abbrev pub GoesOver : {F : Type 0} → Ids F → ℕ → List Entry → Seen → Seen → Type 0
GoesOver {F} known k es old new = (answer : F → Function Text) (now : Map (m.Entry Text)) → AreKnown (ids answer known) old.earlier.keys now →
    AreKnown (ids answer known) new.earlier.keys (added es now)
    × (map left_view new.left.items ≡ map left_view old.left.items ++ left_from k es now)

-- these entries are gone over, and none before them
abbrev pub IsSeen : {F : Type 0} → Ids F → List Entry → Seen → Type 0
IsSeen {F} known es seen = (answer : F → Function Text) →
    AreKnown (ids answer known) seen.earlier.keys (added es (ids answer known))
    × (map left_view seen.left.items ≡ left_from 0 es (ids answer known))

-- these are left of the entries
abbrev pub AreLeft : {F : Type 0} → Ids F → List Entry → List Left → Type 0
AreLeft {F} known es all = (answer : F → Function Text) → map left_view all ≡ left_from 0 es (ids answer known)
