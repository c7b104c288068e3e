-- What is noted of places while variables are gathered.
use Rattle.std.specs.Prelude.{◌≡◌, ◌⊎◌, ℕ, List, [], ◌∷◌, ◌++◌, take}
use Rattle.std.specs.List.{AllByRecursion}
use Rattle.std.specs.Borrow.{Bor, MutBor}
use denote.Triple.Both.{Both}
use Rattle.indexmap.specs.IndexSet.{IndexSet}
use Rattle.fluent_ast.specs.Tree.{Text, Attribute}
use Rattle.fluent_semantics.specs.Bundle.{Target, unknown, without_value, found}
use Rattle.fluent_places.specs.Places.{Place, of_message, place_view, views, Names, place_target}
use Rattle.fluent_places.specs.Needs.{Need, a_message, a_variable, needs, IsAmong}
use Rattle.fluent_places.specs.Asked.{AsksForAt, AreAsked, AreDistinct, texts}
use Rattle.fluent_places.specs.declared.place.Place as code

abbrev Change : Type 0 → Type 0
Change A = Both (MutBor A) (MutBor A)

-- it is added where it isn't there
abbrev pub Adds : {A : Type 0} → A → List A → List A → Type 0
Adds x old new = (IsAmong x old × (new ≡ old)) ⊎ ((IsAmong x old → ⊥) × (new ≡ old ++ x ∷ []))

-- a reference to the message that stands there
abbrev pub IsReference : List Need → Place → Type 0
IsReference ns x = (m : Text) × (a : Attribute) × IsAmong (a_message m a) ns × (x ≡ of_message m a)

-- From places and names to others: the messages and the variables among these needs are added.
pub record NotesOf (ns : List Need) (xs xs' : List Place) (vs vs' : List Text) : Type 0 where
  pub prefix : (rest : List Place) × (xs' ≡ xs ++ rest)
  pub reached : (x : Place) → IsAmong x xs' → IsAmong x xs ⊎ IsReference ns x
  pub named : (v : Text) → IsAmong v vs' → IsAmong v vs ⊎ IsAmong (a_variable v) ns
  pub kept : (v : Text) → IsAmong v vs → IsAmong v vs'
  pub messages : (x : Place) → IsReference ns x → IsAmong x xs'
  pub variables : (v : Text) → IsAmong (a_variable v) ns → IsAmong v vs'
  pub distinct : AreDistinct vs → AreDistinct vs'

-- what a pattern needs, if one stands there
abbrev pub needs_there : Target → List Need
needs_there unknown = []
needs_there without_value = []
needs_there (found p) = needs p

abbrev pub needs_at : Names Text → Place → List Need
needs_at named x = needs_there (place_target named x)

-- From names to others: these are added.
pub record AddsNames (all vs vs' : List Text) : Type 0 where
  pub kept : (v : Text) → IsAmong v vs → IsAmong v vs'
  pub named : (v : Text) → IsAmong v vs' → IsAmong v vs ⊎ IsAmong v all
  pub added : (v : Text) → IsAmong v all → IsAmong v vs'
  pub distinct : AreDistinct vs → AreDistinct vs'

-- No place is added, and all that a place asks for is.
abbrev pub TellsAll : Names Text → Place → List Place → List Place → List Text → List Text → Type 0
TellsAll named x xs xs' vs vs' = (xs' ≡ xs) × ((all : List Text) × AreAsked named x all × AddsNames all vs vs')

-- ---- of the code's sets

-- a place is added where it isn't there
abbrev pub AddsPlace : {S : Type 0} → code.Place → IndexSet code.Place S → IndexSet code.Place S → Type 0
AddsPlace x old new = Adds (place_view x) (views old.keys) (views new.keys)

-- so is a name
abbrev pub AddsName : {S : Type 0} → Text → IndexSet (Bor Text) S → IndexSet (Bor Text) S → Type 0
AddsName v old new = Adds v (texts old.keys) (texts new.keys)

-- so is each of a set
abbrev pub AddsAll : {S : Type 0} → IndexSet (Bor Text) S → IndexSet (Bor Text) S → IndexSet (Bor Text) S → Type 0
AddsAll all old new = AddsNames (texts all.keys) (texts old.keys) (texts new.keys)

-- the messages and the variables among these needs are added
abbrev pub Notes : {S T : Type 0} → List Need → IndexSet code.Place S → IndexSet code.Place S → IndexSet (Bor Text) T → IndexSet (Bor Text) T → Type 0
Notes ns xs xs' vs vs' = NotesOf ns (views xs.keys) (views xs'.keys) (texts vs.keys) (texts vs'.keys)

-- those among the needs of what stands at a place
abbrev pub NotesPattern : {S T : Type 0} → Names Text → code.Place → Change (IndexSet code.Place S) → Change (IndexSet (Bor Text) T) → Type 0
NotesPattern named x xs vs = Notes (needs_at named (place_view x)) xs.entry.now xs.exit.now vs.entry.now vs.exit.now

-- those, or all that the place asks for
abbrev pub NotedAt : {S T : Type 0} → Names Text → code.Place → IndexSet code.Place S → IndexSet code.Place S → IndexSet (Bor Text) T → IndexSet (Bor Text) T → Type 0
NotedAt named x xs xs' vs vs' = Notes (needs_at named (place_view x)) xs xs' vs vs' ⊎ TellsAll named (place_view x) (views xs.keys) (views xs'.keys) (texts vs.keys) (texts vs'.keys)

-- What stands at a place was gone through: its variables and its messages are there, or all that it asks for.
abbrev pub IsThrough : Names Text → List Place → List Text → Place → Type 0
IsThrough named xs vs y =
    (((x : Place) → IsReference (needs_at named y) x → IsAmong x xs) × ((v : Text) → IsAmong (a_variable v) (needs_at named y) → IsAmong v vs))
    ⊎ ((v : Text) → AsksForAt named y v → IsAmong v vs)

-- From one place so many of these were gone through.
pub record Gathered (named : Names Text) (from : Place) (n : ℕ) (xs : List Place) (vs : List Text) : Type 0 where
  pub started : IsAmong from xs
  pub leads : (x : Place) → IsAmong x xs → (v : Text) → AsksForAt named x v → AsksForAt named from v
  pub told : (v : Text) → IsAmong v vs → AsksForAt named from v
  pub through : AllByRecursion (IsThrough named xs vs) (take n xs)
  pub distinct : AreDistinct vs
