-- What a call makes of what ids name, whatever functions of the application answer.
use Rattle.std.specs.Prelude.{◌≡◌, ℕ, Some}
use Rattle.fluent_ast.specs.Tree.{Text}
use Rattle.fluent_semantics.specs.Arguments.{set}
use Rattle.fluent_semantics.specs.Bundle.{Function}
use Rattle.fluent_bundle_entries.specs.EntryView.{entry_of, ids}
use Rattle.fluent_bundle_entries.specs.IdNumbers.{numbers}
use Rattle.fluent_bundle_entries.specs.declared.entry.Entry.{Entry}
use Rattle.fluent_bundle_entries.specs.declared.ids.Ids.{Ids}

-- each id names what it named
abbrev pub KeepsEntries : {F : Type 0} → Ids F → Ids F → Type 0
KeepsEntries {F} old new = (answer : F → Function Text) → ids answer new ≡ ids answer old

-- the id of this number names this, and all others what they named
abbrev pub FillsSlot : {F : Type 0} → Ids F → Ids F → ℕ → Entry F → Type 0
FillsSlot {F} old new n x = (id : Text) → numbers old id ≡ Some n → (answer : F → Function Text) → ids answer new ≡ set id (entry_of answer x) (ids answer old)
