-- What is kept of the patterns of what ids name.
use Rattle.std.specs.Prelude.{◌≡◌, ℕ, List, [], ◌∷◌, length, map, slice_get, is_none, Bool, true, false, Option, Some, None}
use Rattle.std.specs.Borrow.{Bor}
use Rattle.std.specs.Global.{Box}
use Rattle.std.specs.List.{list_all}
use Rattle.std.specs.Option.{option_map}
use mathlib.Core.HLevel.{hedberg}
use Rattle.fluent_ast.specs.References.{references}
use Rattle.fluent_ast.specs.Tree.{Text, Pattern, pattern_same}
use Rattle.fluent_ast.specs.View as view
use Rattle.fluent_ast.specs.View.{pattern_view}
use Rattle.fluent_ast.specs.declared.ast.Attribute.{Attribute}
use Rattle.fluent_ast.specs.declared.ast.Pattern as code
use Rattle.fluent_references.specs.Linked.{IsOf, are_some, class_of}
use Rattle.fluent_references.specs.Slots.{named, number}
use Rattle.fluent_references.specs.declared.linked.Linked.{Linked}
use Rattle.fluent_bundle_entries.specs.declared.entry.Entry.{Entry}
use Rattle.fluent_bundle_entries.specs.declared.entry.Entry.TheVariants as entry
use Rattle.fluent_bundle_entries.specs.declared.slot.Kept.{Kept}
use Rattle.fluent_bundle_entries.specs.declared.slot.Slot.{Slot}

-- the value of an entry, if it has one
abbrev pub value_in : {F : Type 0} → Entry F → Option Pattern
value_in (entry.Message x) = view.value_view x.now.value
value_in (entry.Term x) = Some (pattern_view x.now.value)
value_in (entry.Function f) = None
value_in entry.Number = None

-- the content of a value that is borrowed, if there is one
abbrev pub borrowed_value : Option (Bor code.Pattern) → Option Pattern
borrowed_value v = option_map (λ p. pattern_view p.now) v

-- the patterns of attributes, in order
abbrev pub patterns : List Attribute → List Pattern
patterns as' = map (λ a. pattern_view a.value) as'

abbrev pub attributes_in : {F : Type 0} → Entry F → List Pattern
attributes_in (entry.Message x) = patterns x.now.attributes.items
attributes_in (entry.Term x) = patterns x.now.attributes.items
attributes_in (entry.Function f) = []
attributes_in entry.Number = []

-- one is kept of each pattern, in order
abbrev pub AreOf : (Text → Option ℕ) → List Pattern → List Pattern → List Linked → Type 0
AreOf number table [] [] = Unit {0}
AreOf number table [] (l ∷ ls) = ⊥
AreOf number table (p ∷ ps) [] = ⊥
AreOf number table (p ∷ ps) (l ∷ ls) = IsOf number table p l × AreOf number table ps ls

-- of a pattern that refers to nothing, nothing needs to be kept
abbrev pub is_bare : Linked → Bool
is_bare l = is_none (class_of l)

abbrev pub is_value_bare : Option Linked → Bool
is_value_bare None = true
is_value_bare (Some l) = is_bare l

-- what is kept of a value, and of attributes
abbrev pub value_kept : Option (Box Kept) → Option Linked
value_kept None = None
value_kept (Some k) = k.value.value

abbrev pub attributes_kept : Option (Box Kept) → List Linked
attributes_kept None = []
attributes_kept (Some k) = k.value.attributes.items

-- both are kept, or nothing where none of them refers to anything
abbrev pub Keeps : Option Linked → List Linked → Option (Box Kept) → Type 0
Keeps value attributes None = (is_value_bare value ≡ true) × (list_all is_bare attributes ≡ true)
Keeps value attributes (Some k) = (k.value.value ≡ value) × (k.value.attributes.items ≡ attributes)

-- a pattern that refers to nothing
abbrev pub RefersToNothing : Pattern → Type 0
RefersToNothing p = are_some (references p) ≡ false

-- Of each attribute's pattern that refers to anything, something is kept at its index; what is kept is of its pattern, and there is one for each, or none.
pub record AreKept (number : Text → Option ℕ) (table ps : List Pattern) (ls : List Linked) : Type 0 where
  pub each : (k : ℕ) (p : Pattern) (l : Linked) → slice_get ps k ≡ Some p → slice_get ls k ≡ Some l → IsOf number table p l
  pub left : (k : ℕ) (p : Pattern) → slice_get ps k ≡ Some p → slice_get ls k ≡ None → RefersToNothing p
  pub all : (ls ≡ [] → ⊥) → length ls ≡ length ps

-- what is kept of a value is its own; of one that refers to anything something is kept, and of none nothing
pub record IsValueKept (number : Text → Option ℕ) (table : List Pattern) (v : Option Pattern) (kept : Option Linked) : Type 0 where
  pub value : (p : Pattern) (l : Linked) → v ≡ Some p → kept ≡ Some l → IsOf number table p l
  pub left : (p : Pattern) → v ≡ Some p → kept ≡ None → RefersToNothing p
  pub none : v ≡ None → is_none kept ≡ true

-- what is kept of a value and of attributes is their own; of a value that refers to anything something is kept, and of none nothing
pub record IsKeptOf (number : Text → Option ℕ) (table : List Pattern) (v : Option Pattern) (ps : List Pattern) (kept : Option (Box Kept)) : Type 0 where
  pub value : (p : Pattern) (l : Linked) → v ≡ Some p → value_kept kept ≡ Some l → IsOf number table p l
  pub left : (p : Pattern) → v ≡ Some p → value_kept kept ≡ None → RefersToNothing p
  pub none : v ≡ None → is_none (value_kept kept) ≡ true
  pub attributes : AreKept number table ps (attributes_kept kept)

-- what is kept in a slot is that of its entry's patterns
abbrev pub IsLinked : {F : Type 0} → (Text → Option ℕ) → List Pattern → Slot F → Type 0
IsLinked number table s = IsKeptOf number table (value_in s.entry) (attributes_in s.entry) s.kept

-- what is kept in each slot that is filled is that of its entry's patterns
abbrev pub AreLinked : {F : Type 0} → List (Text × Option (Slot F)) → List Pattern → Type 0
AreLinked {F} ss table = (id : Text) (s : Slot F) → named id ss ≡ Some s → IsLinked (number ss) table s

-- contents are equal in one way at most
pub content_set : IsSet Pattern
content_set = hedberg pattern_same
