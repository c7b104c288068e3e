-- What adding makes of what ids name, and what it reports, whatever functions of the application answer.
use Rattle.std.specs.Prelude.{◌≡◌, List, map}
use Rattle.std.specs.Cow.{cow_str_bytes}
use Rattle.std.specs.declared.borrow.CowStr.{CowStr}
use Rattle.std.specs.declared.vec.Vec.{Vec}
use Rattle.std.proofs.Common.{Global}
use Rattle.fluent_ast.specs.Tree.{Text}
use Rattle.fluent_semantics.specs.Arguments.{Map, set}
use Rattle.fluent_semantics.specs.Bundle.{Function, add_free, error_if_taken}
use Rattle.fluent_semantics.specs.Bundle as m
use Rattle.fluent_semantics.specs.Errors.{Error, function_kind}
use Rattle.fluent_bundle_entries.specs.EntryView.{entry_of, ids}
use Rattle.fluent_bundle_entries.specs.ErrorView.{error_view}
use Rattle.fluent_bundle_entries.specs.declared.entry.Entry.{Entry}
use Rattle.fluent_bundle_entries.specs.declared.errors.FluentError.{FluentError}
use Rattle.fluent_bundle_entries.specs.declared.ids.Ids.{Ids}

-- what ids name is this of what they named
abbrev pub Becomes : {F : Type 0} → Ids F → Ids F → (Map (m.Entry Text) → Map (m.Entry Text)) → Type 0
Becomes {F} old new change = (answer : F → Function Text) → ids answer new ≡ change (ids answer old)

-- an id names this where it was free, and else what it named
abbrev pub AddsFree : {F : Type 0} → Ids F → Ids F → CowStr Global → Entry F → Type 0
AddsFree {F} old new id x = (answer : F → Function Text) → ids answer new ≡ add_free (cow_str_bytes id) (entry_of answer x) (ids answer old)

-- the errors are these of what ids named
abbrev pub Reports : {F : Type 0} → Ids F → (Map (m.Entry Text) → List Error) → Vec FluentError Global → Type 0
Reports {F} old told errors = (answer : F → Function Text) → map error_view errors.items ≡ told (ids answer old)

-- a function was not added where its id was taken; there is no other error
abbrev pub ReportsIfTaken : {F : Type 0} → Ids F → CowStr Global → Vec FluentError Global → Type 0
ReportsIfTaken old id errors = Reports old (error_if_taken function_kind (cow_str_bytes id)) errors

-- an id names this, whatever it named
abbrev pub SetsEntry : {F : Type 0} → Ids F → Ids F → CowStr Global → Entry F → Type 0
SetsEntry {F} old new id x = (answer : F → Function Text) → ids answer new ≡ set (cow_str_bytes id) (entry_of answer x) (ids answer old)
