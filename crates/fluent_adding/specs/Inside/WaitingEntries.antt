-- Entries that wait to be put into their slots.
use Rattle.std.specs.Prelude.{◌≡◌, ◌++◌, ℕ, nat_eq, Bool, false, List, [], ◌∷◌, map, slice_get, Option, Some, is_some}
use Rattle.std.specs.Global.{Box}
use Rattle.std.specs.List.{list_any}
use Rattle.std.specs.Option.{option_to_list, unwrap_or}
use Rattle.fluent_ast.specs.Tree.{Text, Pattern, message_entry, term_entry, junk_entry}
use Rattle.fluent_ast.specs.Tree as t
use Rattle.fluent_ast.specs.View.{entry_view, pattern_view, value_view}
use Rattle.fluent_ast.specs.declared.ast.Entry.{Entry}
use Rattle.fluent_ast.specs.declared.ast.Entry.TheVariants as entries
use Rattle.fluent_semantics.specs.Bundle.{a_message, a_term}
use Rattle.fluent_semantics.specs.Bundle as m
use Rattle.fluent_semantics.specs.Errors.{message_kind, term_kind}
use Rattle.fluent_adding.specs.declared.parts.Parts.{Parts}
use Rattle.fluent_bundle_entries.specs.declared.ids.Ids.{Ids}
use Rattle.fluent_adding.specs.declared.ready.Ready.{Ready}
use Rattle.fluent_adding.specs.declared.ready.Waiting.{Waiting}
use Rattle.fluent_bundle_entries.specs.declared.slot.Kept.{Kept}
use Rattle.fluent_bundle_entries.specs.ErrorView.{kind_view}
use Rattle.fluent_bundle_entries.specs.IdNumbers.{numbers, table}
use Rattle.fluent_bundle_entries.specs.KeptLinks.{IsKeptOf, borrowed_value, patterns}

-- the messages and terms among entries, each with its id
abbrev pub given : List t.Entry → List (Text × m.Entry Text)
given [] = []
given (message_entry id v as' ∷ es) = (id, a_message v as') ∷ given es
given (term_entry id p as' ∷ es) = (id, a_term p as') ∷ given es
given (junk_entry source ∷ es) = given es

-- the entry at an index, if there is one
abbrev pub at_index : List Entry → ℕ → List t.Entry
at_index es index = map entry_view (option_to_list (slice_get es index))

-- the entry at an index with its id, if it is a message or a term
abbrev pub given_at : List Entry → ℕ → List (Text × m.Entry Text)
given_at es index = given (at_index es index)

-- the entries that wait, each with its id
abbrev pub given_by : List Entry → List Ready → List (Text × m.Entry Text)
given_by es [] = []
given_by es (r ∷ rs) = given_at es r.index ++ given_by es rs

-- an entry is a message or a term of these parts
abbrev pub HasParts : Entry → Parts → Type 0
HasParts (entries.Message x) p = (kind_view p.kind ≡ message_kind) × (x.id.name.now ≡ p.id.now) × (value_view x.value ≡ borrowed_value p.value) × (patterns x.attributes.items ≡ patterns p.attributes.now)
HasParts (entries.Term x) p = (kind_view p.kind ≡ term_kind) × (x.id.name.now ≡ p.id.now) × (Some (pattern_view x.value) ≡ borrowed_value p.value) × (patterns x.attributes.items ≡ patterns p.attributes.now)
HasParts (entries.Junk source) p = ⊥

-- the entry at an index has these parts
abbrev pub HasPartsAt : List Entry → ℕ → Parts → Type 0
HasPartsAt es index p = (e : Entry) × (slice_get es index ≡ Some e) × HasParts e p

abbrev pub IsJunk : Entry → Type 0
IsJunk (entries.Message x) = ⊥
IsJunk (entries.Term x) = ⊥
IsJunk (entries.Junk source) = Unit {0}

-- this is the number of an entry's id, and this is kept of its patterns
abbrev pub IsReady : (Text → Option ℕ) → List Pattern → ℕ → Option (Box Kept) → Entry → Type 0
IsReady number table n kept (entries.Message x) = (number x.id.name.now ≡ Some n) × IsKeptOf number table (value_view x.value) (patterns x.attributes.items) kept
IsReady number table n kept (entries.Term x) = (number x.id.name.now ≡ Some n) × IsKeptOf number table (Some (pattern_view x.value)) (patterns x.attributes.items) kept
IsReady number table n kept (entries.Junk source) = ⊥

-- one that waits has the number of its id, and what is kept of its patterns if anything is
abbrev pub Waits : (Text → Option ℕ) → List Pattern → List Entry → Ready → Option (Box Kept) → Type 0
Waits number table es r kept = (r.is_linked ≡ is_some kept) × (e : Entry) × (slice_get es r.index ≡ Some e) × IsReady number table r.number kept e

-- each that waits has the number of its id; what is kept of them stands in their order
abbrev pub AreReady : (Text → Option ℕ) → List Pattern → List Entry → List Ready → List (Box Kept) → Type 0
AreReady number table es [] ks = ks ≡ []
AreReady number table es (r ∷ rs) ks = (kept : Option (Box Kept)) × (rest : List (Box Kept)) × (ks ≡ option_to_list kept ++ rest) × Waits number table es r kept × AreReady number table es rs rest

-- all that wait can be put into the slots of these ids
abbrev pub AreReadyFor : {F : Type 0} → Ids F → List Entry → Waiting → Type 0
AreReadyFor ids es w = AreReady (numbers ids) (table ids) es w.list.items w.kept.items

-- ---- which numbers are those of entries that wait

abbrev pub has_number : List Ready → ℕ → Bool
has_number rs n = list_any (λ r. nat_eq r.number n) rs

abbrev pub is_marked : List Bool → ℕ → Bool
is_marked marks n = unwrap_or (slice_get marks n) false

-- they are marked, and no others
abbrev pub AreMarked : List Bool → List Ready → Type 0
AreMarked marks rs = (n : ℕ) → is_marked marks n ≡ has_number rs n
