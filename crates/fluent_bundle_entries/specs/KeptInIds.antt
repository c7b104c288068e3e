-- What is kept of patterns, by the numbers of ids and the classes of contents.
use Rattle.std.specs.Prelude.{List, Option}
use Rattle.std.specs.Borrow.{Bor}
use Rattle.std.specs.Global.{Box}
use Rattle.fluent_ast.specs.declared.ast.Attribute.{Attribute}
use Rattle.fluent_ast.specs.declared.ast.Pattern.{Pattern}
use Rattle.fluent_references.specs.declared.linked.Linked.{Linked}
use Rattle.fluent_bundle_entries.specs.IdNumbers.{numbers, table}
use Rattle.fluent_bundle_entries.specs.KeptLinks.{AreKept, IsKeptOf, IsLinked, IsValueKept, borrowed_value, patterns}
use Rattle.fluent_bundle_entries.specs.declared.ids.Ids.{Ids}
use Rattle.fluent_bundle_entries.specs.declared.slot.Kept.{Kept}
use Rattle.fluent_bundle_entries.specs.declared.slot.Slot.{Slot}

-- what is kept in a slot is that of its entry's patterns
abbrev pub IsLinkedIn : {F : Type 0} → Ids F → Slot F → Type 0
IsLinkedIn ids s = IsLinked (numbers ids) (table ids) s

-- this is kept of a value
abbrev pub KeepsValue : {F : Type 0} → Ids F → Option (Bor Pattern) → Option Linked → Type 0
KeepsValue ids v kept = IsValueKept (numbers ids) (table ids) (borrowed_value v) kept

-- this is kept of attributes
abbrev pub KeepsAttributes : {F : Type 0} → Ids F → List Attribute → List Linked → Type 0
KeepsAttributes ids as' kept = AreKept (numbers ids) (table ids) (patterns as') kept

-- this is kept of a value and of attributes
abbrev pub KeepsBoth : {F : Type 0} → Ids F → Option (Bor Pattern) → List Attribute → Option (Box Kept) → Type 0
KeepsBoth ids v as' kept = IsKeptOf (numbers ids) (table ids) (borrowed_value v) (patterns as') kept
