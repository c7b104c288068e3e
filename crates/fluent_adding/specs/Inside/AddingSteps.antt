-- What each step of an adding call makes of what waits and of what is reported.
use Rattle.std.specs.Prelude.{◌≡◌, ◌++◌, ◌||◌, ℕ, nat_eq, Bool, List, map, Option, Some, is_some}
use Rattle.std.specs.Global.{Box}
use Rattle.std.specs.Option.{option_to_list}
use Rattle.std.specs.declared.vec.Vec.{Vec}
use Rattle.std.proofs.Common.{Global}
use Rattle.fluent_ast.specs.Tree.{Text}
use Rattle.fluent_ast.specs.View.{entry_view}
use Rattle.fluent_ast.specs.declared.ast.Entry.{Entry}
use Rattle.fluent_semantics.specs.Arguments.{Map, get, set_all}
use Rattle.fluent_semantics.specs.Bundle.{Function, added, not_added}
use Rattle.fluent_semantics.specs.Bundle as m
use Rattle.fluent_bundle_entries.specs.EntryView.{ids}
use Rattle.fluent_bundle_entries.specs.ErrorView.{error_view}
use Rattle.fluent_bundle_entries.specs.IdNumbers.{numbers}
use Rattle.fluent_adding.specs.Inside.WaitingEntries.{at_index, given, given_at, given_by, has_number, is_marked}
use Rattle.fluent_bundle_entries.specs.declared.errors.FluentError.{FluentError}
use Rattle.fluent_bundle_entries.specs.declared.ids.Ids.{Ids}
use Rattle.fluent_adding.specs.declared.ready.Ready.{Ready}
use Rattle.fluent_adding.specs.declared.ready.Waiting.{Waiting}
use Rattle.fluent_bundle_entries.specs.declared.slot.Kept.{Kept}

-- ---- one step

-- the entry at this index waits after the others, unless it is Junk
abbrev pub WaitsToo : List Entry → ℕ → Waiting → Waiting → Type 0
WaitsToo es index old new = given_by es new.list.items ≡ given_by es old.list.items ++ given_at es index

-- this number too is that of an entry that waits
abbrev pub HasNumberToo : ℕ → Waiting → Waiting → Type 0
HasNumberToo number old new = (n : ℕ) → has_number new.list.items n ≡ (has_number old.list.items n || nat_eq number n)

-- this number is marked too
abbrev pub IsMarkedToo : ℕ → List Bool → List Bool → Type 0
IsMarkedToo number old new = (n : ℕ) → is_marked new n ≡ (nat_eq number n || is_marked old n)

-- what ids name once all that wait are put into their slots
abbrev pub once_put : {F : Type 0} → (F → Function Text) → Ids F → List Entry → Waiting → Map (m.Entry Text)
once_put answer known es w = set_all (given_by es w.list.items) (ids answer known)

-- once all that wait are put, the entry at this index is added to the others
abbrev pub AddsAt : {F : Type 0} → Ids F → List Entry → ℕ → Waiting → Waiting → Type 0
AddsAt {F} known es index old new = (answer : F → Function Text) → once_put answer known es new ≡ added (at_index es index) (once_put answer known es old)

-- if the id of the entry at this index is taken by then, that is one more error
abbrev pub ReportsAt : {F : Type 0} → Ids F → List Entry → ℕ → Waiting → Vec FluentError Global → Vec FluentError Global → Type 0
ReportsAt {F} known es index w old new = (answer : F → Function Text) → map error_view new.items ≡ map error_view old.items ++ not_added (at_index es index) (once_put answer known es w)

-- whether the id of this number names something, or the number is marked
abbrev pub TellsTaken : {F : Type 0} → Ids F → List Bool → ℕ → Bool → Type 0
TellsTaken {F} known marks number told = (id : Text) → numbers known id ≡ Some number → (answer : F → Function Text) → told ≡ (is_marked marks number || is_some (get id (ids answer known)))

-- ---- all steps

-- each message and term waits
abbrev pub AllWait : List Entry → Waiting → Type 0
AllWait es w = given_by es w.list.items ≡ given (map entry_view es)

-- once all that wait are put, the entries are added
abbrev pub AddsAll : {F : Type 0} → Ids F → List Entry → Waiting → Type 0
AddsAll {F} known es w = (answer : F → Function Text) → once_put answer known es w ≡ added (map entry_view es) (ids answer known)

-- the errors of those that are not added come after the others
abbrev pub ReportsAll : {F : Type 0} → Ids F → List Entry → Vec FluentError Global → Vec FluentError Global → Type 0
ReportsAll {F} known es old new = (answer : F → Function Text) → map error_view new.items ≡ map error_view old.items ++ not_added (map entry_view es) (ids answer known)

-- ---- what is kept of those that wait

-- one that waits
abbrev pub ready : ℕ → ℕ → Option (Box Kept) → Ready
ready index number kept = record { index = index; number = number; is_linked = is_some kept }

-- what is kept of the first is taken, if anything is, and the rest is left
abbrev pub TakesFirst : List (Box Kept) → Bool → Option (Box Kept) → List (Box Kept) → Type 0
TakesFirst kept is_linked taken left = (first : Option (Box Kept)) (rest : List (Box Kept)) → kept ≡ option_to_list first ++ rest → is_linked ≡ is_some first → (taken ≡ first) × (left ≡ rest)
