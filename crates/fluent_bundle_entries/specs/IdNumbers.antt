-- The numbers of a bundle's ids, and the contents of its patterns.
use Rattle.std.specs.Prelude.{◌≡◌, ℕ, List, Option, Some, IfSome}
use Rattle.fluent_ast.specs.Tree.{Text, Pattern}
use Rattle.fluent_ast.specs.References.{Reference}
use Rattle.fluent_references.specs.Classes.{AreDistinct, Grows}
use Rattle.fluent_references.specs.Links.{IsBefore, KeepsNumbers}
use Rattle.fluent_references.specs.Cursors.{seen}
use Rattle.fluent_references.specs.Slots.{slots, number}
use Rattle.fluent_references.specs.Table as contents
use Rattle.fluent_references.specs.declared.cursor.Cursor.{Cursor}
use Rattle.fluent_bundle_entries.specs.declared.ids.Ids.{Ids}

-- the number of an id
unfoldable pub numbers : {F : Type 0} → Ids F → Text → Option ℕ
numbers m = number (slots m.known)

-- a number that is handed in with an id, if one is, is the id's
abbrev pub IsNumberOf : {F : Type 0} → Ids F → Text → Option ℕ → Type 0
IsNumberOf m id n = IfSome n (λ n. numbers m id ≡ Some n)

-- the contents that are stored, by their classes
unfoldable pub table : {F : Type 0} → Ids F → List Pattern
table m = contents.table m.classes

pub table_is_distinct : {F : Type 0} (m : Ids F) → AreDistinct (table m)
unfolding table
table_is_distinct m = contents.table_is_distinct m.classes

-- every number and every class is still its own
abbrev pub Grown : {F : Type 0} → Ids F → Ids F → Type 0
Grown old new = KeepsNumbers (numbers old) (numbers new) × Grows (table old) (table new)

-- a cursor stands before these references
abbrev pub IsPlaced : {F : Type 0} → Ids F → List Reference → Cursor → Type 0
IsPlaced m rs p = IsBefore (numbers m) rs (seen p)
