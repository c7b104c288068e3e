-- What is known of lists of variables while places are settled.
use Rattle.std.specs.Prelude.{◌≡◌, ℕ, Bool, List, [], ◌∷◌, Some, IsTrue, cond}
use Rattle.std.specs.Borrow.{Bor}
use Rattle.fluent_ast.specs.Tree.{Text, is_yes}
use Rattle.fluent_places.specs.Places.{Place, place_same, place_view, views, Names}
use Rattle.fluent_places.specs.Needs.{Need, IsAmong}
use Rattle.fluent_places.specs.Asked.{AsksForAt, AreAsked, AreDistinct, texts, index_of, list_at}
use Rattle.fluent_places.specs.Inside.Reached.{IsReference, needs_at}
use Rattle.fluent_places.specs.declared.asked.Asked.{Asked}
use Rattle.fluent_places.specs.declared.place.Place as code
use Rattle.fluent_places.specs.declared.asking.Gathered.{Gathered}

-- the place has this list now, and others have theirs
abbrev pub IsSetTo : Asked → Asked → code.Place → ℕ → Type 0
IsSetTo old new x k = (q : code.Place) → index_of new (place_view q) ≡ cond (is_yes (place_same (place_view x) (place_view q))) (Some k) (index_of old (place_view q))

-- a list is added, as that of a place, and the others stay
abbrev pub AddsList : Asked → Asked → code.Place → List (Bor Text) → ℕ → Type 0
AddsList old new x names k =
    ((j : ℕ) (l : List (Bor Text)) → list_at old.lists.items (Some j) ≡ Some l → list_at new.lists.items (Some j) ≡ Some l)
    × (list_at new.lists.items (Some k) ≡ Some names)
    × IsSetTo old new x k

-- a list is there, and has all that a place asks for, each once
pub record IsList (named : Names Text) (a : Asked) (x : Place) (k : ℕ) : Type 0 where
  pub list : List (Bor Text)
  pub there : list_at a.lists.items (Some k) ≡ Some list
  pub asked : AreAsked named x (texts list)
  pub distinct : AreDistinct (texts list)

-- so is the list of each place that has one
abbrev pub AreListed : Names Text → Asked → Type 0
AreListed named a = (q : code.Place) (k : ℕ) → index_of a (place_view q) ≡ Some k → IsList named a (place_view q) k

-- what was gathered from a place is all that it asks for, and what was reached asks for no more
pub record IsGathered (named : Names Text) (x : Place) (g : Gathered) : Type 0 where
  pub asked : AreAsked named x (texts g.names.keys)
  pub distinct : AreDistinct (texts g.names.keys)
  pub leads : (y : Place) → IsAmong y (views g.reached.keys) → (v : Text) → AsksForAt named y v → AsksForAt named x v

-- a list has what each of these places asks for
pub record Covers (named : Names Text) (xs : List Place) (a : Asked) (k : ℕ) : Type 0 where
  pub list : List (Bor Text)
  pub there : list_at a.lists.items (Some k) ≡ Some list
  pub all : (y : Place) → IsAmong y xs → (v : Text) → AsksForAt named y v → IsAmong v (texts list)
  pub distinct : AreDistinct (texts list)

-- one of some needs is a reference to a message with a list
abbrev pub IsOfList : Asked → ℕ → Need → Type 0
IsOfList a k n = (z : code.Place) × IsReference (n ∷ []) (place_view z) × (index_of a (place_view z) ≡ Some k)

abbrev pub LeadsToList : Names Text → Asked → Place → ℕ → Type 0
LeadsToList named a y k = (z : code.Place) × IsReference (needs_at named y) (place_view z) × (index_of a (place_view z) ≡ Some k)

-- it is said to be so only where it is
abbrev pub TellsLeading : Names Text → Asked → code.Place → ℕ → Bool → Type 0
TellsLeading named a y k said = IsTrue said → LeadsToList named a (place_view y) k

abbrev pub IsKnown : Asked → Place → Type 0
IsKnown a x = (k : ℕ) × (index_of a x ≡ Some k)

abbrev pub KeepsKnown : Asked → Asked → Type 0
KeepsKnown old new = (q : code.Place) → IsKnown old (place_view q) → IsKnown new (place_view q)

-- the lists are the same, and right still
pub record Joins (named : Names Text) (old new : Asked) : Type 0 where
  pub lists : new.lists.items ≡ old.lists.items
  pub listed : AreListed named new
  pub kept : KeepsKnown old new

-- a place is known, as are those that were
pub record Settles (named : Names Text) (old new : Asked) (x : Place) : Type 0 where
  pub listed : AreListed named new
  pub kept : KeepsKnown old new
  pub known : IsKnown new x
