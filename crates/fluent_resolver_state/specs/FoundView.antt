-- What a reference leads to, by content.
use Rattle.std.specs.Prelude.{◌≡◌, ℕ, List, false, slice_get, Option, None, Some}
use Rattle.std.specs.Borrow.{Bor}
use Rattle.std.specs.Option.{option_map}
use Rattle.fluent_ast.specs.References.{references}
use Rattle.fluent_ast.specs.Tree.{Pattern, Text, more, nothing, text}
use Rattle.fluent_ast.specs.View.{attribute_of, pattern_view}
use Rattle.fluent_ast.specs.declared.ast.Identifier.{Identifier}
use Rattle.fluent_references.specs.Linked.{IsClassOf, IsOf}
use Rattle.fluent_references.specs.Links.{IsBefore}
use Rattle.fluent_references.specs.Cursors.{seen}
use Rattle.fluent_references.specs.declared.linked.Linked.{Linked}
use Rattle.fluent_semantics.specs.Arguments.{get}
use Rattle.fluent_semantics.specs.Bundle.{Function, Target, unknown, without_value, found, message_target, term_target}
use Rattle.fluent_semantics.specs.Walk.{is_on}
use Rattle.fluent_bundle_entries.specs.EntryView.{entry_of, ids as ids_of}
use Rattle.fluent_bundle_entries.specs.IdNumbers.{numbers, table}
use Rattle.fluent_bundle_entries.specs.KeptLinks.{RefersToNothing}
use Rattle.fluent_bundle_entries.specs.declared.ids.Ids.{Ids}
use Rattle.fluent_bundle_entries.specs.declared.slot.Slot.{Slot}
use Rattle.fluent_resolver_state.specs.declared.found.Found.{Found}
use Rattle.fluent_resolver_state.specs.declared.found.Found.TheVariants as leads
use Rattle.fluent_resolver_state.specs.declared.found.Target as code

-- the content of a pattern that is led to
abbrev pub content_at : code.Target → Pattern
content_at t = pattern_view t.pattern.now

abbrev pub found_view : Found → Target
found_view leads.Unknown = unknown
found_view leads.WithoutValue = without_value
found_view (leads.Pattern t) = found (content_at t)

-- a pattern of a bundle: its class is its content's number, and its cursor stands before what it refers to
pub record IsStoredBy (number : Text → Option ℕ) (table : List Pattern) (t : code.Target) : Type 0 where
  pub classed : IsClassOf table (content_at t) t.class
  pub placed : IsBefore number (references (content_at t)) (seen t.cursor)

abbrev pub IsStored : {F : Type 0} → Ids F → code.Target → Type 0
IsStored ids t = IsStoredBy (numbers ids) (table ids) t

-- what a reference leads to is a pattern of a bundle, if it is one
abbrev pub IsLedBy : (Text → Option ℕ) → List Pattern → Found → Type 0
IsLedBy number table (leads.Pattern t) = IsStoredBy number table t
IsLedBy number table _ = Unit {0}

abbrev pub IsLed : {F : Type 0} → Ids F → Found → Type 0
IsLed ids f = IsLedBy (numbers ids) (table ids) f

-- a pattern of one text, which isn't on this path
abbrev pub IsFreeText : List Pattern → Found → Text → Type 0
IsFreeText path (leads.Pattern t) x = (content_at t ≡ more (text x) nothing) × (is_on path (content_at t) ≡ false)
IsFreeText path _ x = ⊥

-- ---- what is kept

-- of a pattern, if anything is; it refers to nothing, where nothing is kept
abbrev pub OfPattern : (Text → Option ℕ) → List Pattern → Pattern → Option (Bor Linked) → Type 0
OfPattern number table p kept = ((l : Bor Linked) → kept ≡ Some l → IsOf number table p l.now) × (kept ≡ None → RefersToNothing p)

-- of a message's value
abbrev pub OfValue : (Text → Option ℕ) → List Pattern → Option Pattern → Option (Bor Linked) → Type 0
OfValue number table value kept = (p : Pattern) → value ≡ Some p → OfPattern number table p kept

-- of the patterns of attributes, one for each that refers to anything
abbrev pub OfPatterns : (Text → Option ℕ) → List Pattern → List Pattern → List Linked → Type 0
OfPatterns number table ps kept = ((k : ℕ) (p : Pattern) (l : Linked) → slice_get ps k ≡ Some p → slice_get kept k ≡ Some l → IsOf number table p l) × ((k : ℕ) (p : Pattern) → slice_get ps k ≡ Some p → slice_get kept k ≡ None → RefersToNothing p)

-- what is led to is stored, where this is kept of its pattern
abbrev pub IsStoredAs : Pattern → Option (Bor Linked) → code.Target → Type 0
IsStoredAs p kept t = (number : Text → Option ℕ) (table : List Pattern) → OfPattern number table p kept → IsStoredBy number table t

-- where this is kept of a message's value
abbrev pub IsLedAs : Option Pattern → Option (Bor Linked) → Found → Type 0
IsLedAs value kept f = (number : Text → Option ℕ) (table : List Pattern) → OfValue number table value kept → IsLedBy number table f

-- where these are kept of the patterns of attributes
abbrev pub IsLedAmong : List Pattern → List Linked → Found → Type 0
IsLedAmong ps kept f = (number : Text → Option ℕ) (table : List Pattern) → OfPatterns number table ps kept → IsLedBy number table f

-- ---- what an id leads to, whatever the functions among the ids answer

-- its slot, if it has one
abbrev pub IsNamed : {F : Type 0} → Ids F → Text → Option (Bor (Slot F)) → Type 0
IsNamed {F} ids id slot = (answer : F → Function Text) → option_map (λ s. entry_of answer s.now.entry) slot ≡ get id (ids_of answer ids)

-- of a message, or its attribute
abbrev pub IsMessage : {F : Type 0} → Ids F → Text → Option Identifier → Found → Type 0
IsMessage {F} ids id attribute f = (answer : F → Function Text) → found_view f ≡ message_target (get id (ids_of answer ids)) (attribute_of attribute)

-- of a term, or its attribute
abbrev pub IsTerm : {F : Type 0} → Ids F → Text → Option Identifier → Found → Type 0
IsTerm {F} ids id attribute f = (answer : F → Function Text) → found_view f ≡ term_target (get id (ids_of answer ids)) (attribute_of attribute)
