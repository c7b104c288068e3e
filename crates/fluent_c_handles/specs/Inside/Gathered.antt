-- The ids that are gathered from the entries of resources, and the names of variables.
use Rattle.std.specs.Prelude.{◌≡◌, ◌↔◌, Bool, List, [], ◌∷◌, map, if◌then◌else◌}
use Rattle.std.specs.Borrow.{Bor}
use Rattle.std.specs.BTreeSet.{BTreeSet}
use Rattle.fluent_ast.specs.Tree.{Text, Entry, message_entry, term_entry, junk_entry}
use Rattle.fluent_semantics.specs.Arguments.{Map, set}
use Rattle.fluent_semantics.specs.Bundle.{Bundle}
use Rattle.fluent_places.specs.Needs.{IsAmong}
use Rattle.fluent_c_handles.specs.Calls.Finding.{names_message}

-- ids, each once, in the order of their bytes
abbrev pub Ids : Type 0
Ids = Map (Unit {0})

-- an id where it passes the test
abbrev pub with_id : (Text → Bool) → Text → Ids → Ids
with_id passes id ids = if passes id then set id tt ids else ids

-- those of the messages among entries
abbrev pub with_entries : (Text → Bool) → List Entry → Ids → Ids
with_entries passes [] ids = ids
with_entries passes (message_entry id v as' ∷ es) ids = with_entries passes es (with_id passes id ids)
with_entries passes (term_entry id p as' ∷ es) ids = with_entries passes es ids
with_entries passes (junk_entry source ∷ es) ids = with_entries passes es ids

-- those of the entries of resources
abbrev pub with_resources : (Text → Bool) → List (List Entry) → Ids → Ids
with_resources passes [] ids = ids
with_resources passes (es ∷ resources) ids = with_resources passes resources (with_entries passes es ids)

-- ---- the ids that the code has

abbrev pub seen : List (Bor Text) → Ids
seen ids = map (λ id. (id.now, tt)) ids

abbrev pub gathered : BTreeSet (Bor Text) → Ids
gathered ids = seen ids.keys

-- the same as a list
abbrev pub texts_of : List (Bor Text) → List Text
texts_of ids = map (λ id. id.now) ids

-- lists that have the same texts
abbrev pub HaveSame : List Text → List Text → Type 0
HaveSame xs ys = (t : Text) → IsAmong t xs ↔ IsAmong t ys

-- an id was put beside these where it names a message
abbrev pub PutsId : Bundle Text → Text → BTreeSet (Bor Text) → BTreeSet (Bor Text) → Type 0
PutsId bundle id old new = gathered new ≡ with_id (names_message bundle) id (gathered old)

-- those of all messages among entries
abbrev pub PutsIds : Bundle Text → List Entry → BTreeSet (Bor Text) → BTreeSet (Bor Text) → Type 0
PutsIds bundle entries old new = gathered new ≡ with_entries (names_message bundle) entries (gathered old)
