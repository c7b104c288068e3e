-- What look-ups of ids find, whatever functions of the application answer.
use Rattle.std.specs.Prelude.{◌≡◌, ℕ, Bool, Option, Some, is_some}
use Rattle.std.specs.Borrow.{Bor}
use Rattle.std.specs.Option.{option_map}
use Rattle.fluent_ast.specs.Tree.{Text}
use Rattle.fluent_semantics.specs.Arguments.{get}
use Rattle.fluent_semantics.specs.Bundle.{Function}
use Rattle.fluent_bundle_entries.specs.EntryView.{entry_of, ids}
use Rattle.fluent_bundle_entries.specs.IdNumbers.{numbers}
use Rattle.fluent_bundle_entries.specs.declared.entry.Entry.{Entry}
use Rattle.fluent_bundle_entries.specs.declared.ids.Ids.{Ids}
use Rattle.fluent_bundle_entries.specs.declared.slot.Slot.{Slot}

-- what was found is what the id names
abbrev pub FindsEntry : {F : Type 0} → Ids F → Text → Option (Bor (Entry F)) → Type 0
FindsEntry {F} m id found = (answer : F → Function Text) → option_map (λ e. entry_of answer e.now) found ≡ get id (ids answer m)

-- it stands in the slot that was found
abbrev pub FindsSlot : {F : Type 0} → Ids F → Text → Option (Bor (Slot F)) → Type 0
FindsSlot {F} m id found = (answer : F → Function Text) → option_map (λ s. entry_of answer s.now.entry) found ≡ get id (ids answer m)

-- whether an id names something
abbrev pub TellsNamed : {F : Type 0} → Ids F → Text → Bool → Type 0
TellsNamed {F} m id told = (answer : F → Function Text) → told ≡ is_some (get id (ids answer m))

-- whether the id of this number names something
abbrev pub TellsFilled : {F : Type 0} → Ids F → ℕ → Bool → Type 0
TellsFilled m n told = (id : Text) → numbers m id ≡ Some n → TellsNamed m id told
