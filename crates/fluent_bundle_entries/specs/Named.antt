-- Messages and terms stand under their own ids.
use Rattle.std.specs.Prelude.{List, [], Bool, true, Option, Some, None, IsTrue}
use Rattle.std.specs.Str.{bytes_eq}
use Rattle.fluent_ast.specs.Tree.{Text}
use Rattle.fluent_references.specs.Slots.{named}
use Rattle.fluent_bundle_entries.specs.declared.entry.Entry.{Entry}
use Rattle.fluent_bundle_entries.specs.declared.entry.Entry.TheVariants as entry
use Rattle.fluent_bundle_entries.specs.declared.slot.Slot.{Slot}

-- whether an entry's own id is this one; a function has none of its own
abbrev pub is_named : {F : Type 0} → Text → Entry F → Bool
is_named id (entry.Message x) = bytes_eq x.now.id.name.now id
is_named id (entry.Term x) = bytes_eq x.now.id.name.now id
is_named id (entry.Function f) = true
is_named id entry.Number = true

abbrev pub IsNamed : {F : Type 0} → Text → Entry F → Type 0
IsNamed id e = IsTrue (is_named id e)

-- whether what was found is of this id, if anything was
abbrev pub is_found_named : {F : Type 0} → Text → Option (Slot F) → Bool
is_found_named id None = true
is_found_named id (Some s) = is_named id s.entry

-- what stands under an id has that id
abbrev pub AreNamed : {F : Type 0} → List (Text × Option (Slot F)) → Type 0
AreNamed ss = (id : Text) → IsTrue (is_found_named id (named id ss))

-- an entry's own id
abbrev pub own_id : {F : Type 0} → Entry F → Text
own_id (entry.Message x) = x.now.id.name.now
own_id (entry.Term x) = x.now.id.name.now
own_id (entry.Function f) = []
own_id entry.Number = []
