-- Bundles that are asked in turn: the first that has a pattern answers, and where none has one the id stands for the text.
-- Words of other files: `value_at id`, the value of the message that an id names; `attribute_at id name`, its first attribute of the name;
-- `arguments_view`, arguments as a map by their names; `Borrows r t`, the answer r is the text t, borrowed; `IsTextAlone`, texts without a placeable;
-- `transform_in`, the transform of a bundle, if it has one; `writer_in`, the writer that a `Counting` holds;
-- `CountsFault`, of its two counts that of failed writes or of writes that took nothing goes up by one where the answer is such a fault, and else none.
use Rattle.std.specs.Prelude.{◌≡◌, ◌≢◌, ℕ, ◌≤◌, Bool, List, [], ◌∷◌, map, Option, Some, None, is_some, Result, Err, OnOk, IfOk, String, string_bytes, ⊤}
use Rattle.std.specs.Borrow.{Bor}
use Rattle.std.specs.List.{list_any, position_from}
use Rattle.std.specs.declared.alloc.AllocError.{AllocError}
use Rattle.std.specs.declared.borrow.CowStr.{CowStr}
use Rattle.std.proofs.Common.{Global}
use Rattle.fluent_text.specs.Changes.{Change, new, old}
use Rattle.fluent_text.specs.Unescaped.{Borrows}
use Rattle.fluent_text.specs.declared.counting.Counting.{Counting}
use Rattle.fluent_text.specs.declared.counting.WriteFault.{WriteFault}
use Rattle.fluent_text.specs.declared.counting.WriteFault.TheVariants.{Memory}
use Rattle.fluent_ast.specs.Tree.{Text, Pattern}
use Rattle.fluent_semantics.specs.Value.{Value}
use Rattle.fluent_semantics.specs.Arguments.{Map}
use Rattle.fluent_semantics.specs.Errors.{Error}
use Rattle.fluent_semantics.specs.Bundle.{Bundle}
use Rattle.fluent_semantics.specs.Events.{Event, writes}
use Rattle.fluent_semantics.specs.Result.{formatted, written_pattern, substituted_pattern}
use Rattle.fluent_bundle_entries.specs.Texts.{IsTextAlone}
use Rattle.fluent_bundle_entries.specs.declared.errors.FluentError.{FluentError}
use Rattle.fluent_values.specs.declared.args.FluentArgs.{FluentArgs}
use Rattle.fluent_resolver_state.specs.Status.{arguments_view}
use Rattle.fluent_bundle.specs.BundleView.{attribute_at, transform_in, value_at}
use Rattle.fluent_bundle.specs.Formatted.{AddsAll, AddsPrefix, BorrowsText, Errors, GivesText, WritesAll, WritesPrefix, before, later, written_events}
use Rattle.fluent_bundle.specs.declared.bundle.FluentBundle.{FluentBundle}
use Rattle.fluent_fallback.specs.declared.chain.Bundles.{Bundles}
use Rattle.fluent_fallback.specs.declared.chain.Bundles.TheVariants as by
use Rattle.fluent_fallback.specs.declared.chain.Chain.{Chain}
use Rattle.fluent_fallback.specs.declared.chain.BundleRef.{BundleRef}

-- ---- the bundles of a chain

-- the bundles that are borrowed
abbrev pub referred : {M C F G X : Type 0} → List (BundleRef M C F G X) → List (FluentBundle M C F G X)
referred refs = map (λ r. r.0.now) refs

abbrev pub in_order : {M C F G X : Type 0} → Bundles M C F G X → List (FluentBundle M C F G X)
in_order (by.Refs refs) = referred refs.now
in_order (by.List bundles) = bundles.now

-- the bundles of a chain, the first that is asked first
abbrev pub bundles_of : {M C F G X : Type 0} → Chain M C F G X → List (FluentBundle M C F G X)
bundles_of chain = in_order chain.bundles

-- ---- what is asked of each

-- the value of the message that an id names, or its first attribute where a name is given
abbrev pub pattern_asked : {C : Type 0} → Text → Option (Bor Text) → Bundle C → Option Pattern
pattern_asked id None b = value_at id b
pattern_asked id (Some name) b = attribute_at id name.now b

-- the same of a bundle of the code, by what it means
abbrev pub pattern_of : {B : Type 0} → (B → Bundle Text) → Text → Option (Bor Text) → B → Option Pattern
pattern_of of id name b = pattern_asked id name (of b)

-- whether one of the chain has it
abbrev pub has : {M C F G X : Type 0} → (FluentBundle M C F G X → Bundle Text)
    → Chain M C F G X → Text → Option (Bor Text) → Bool
has of chain id name = list_any (λ b. is_some (pattern_of of id name b)) (bundles_of chain)

-- ---- which bundle answers

-- this bundle with its pattern, or what the others have
abbrev pub or_others : {B : Type 0} → B → Option Pattern → Option (B × Pattern)
    → Option (B × Pattern)
or_others b (Some p) others = Some (b, p)
or_others b None others = others

-- the first bundle that has a pattern, with that pattern
abbrev pub first_with : {B : Type 0} → (B → Option Pattern) → List B → Option (B × Pattern)
first_with has [] = None
first_with has (b ∷ bs) = or_others b (has b) (first_with has bs)

-- its index among them, from 0 on
abbrev pub index_with : {B : Type 0} → (B → Option Pattern) → List B → Option ℕ
index_with has bundles = position_from (λ b. is_some (has b)) 0 bundles

-- ---- what it answers

-- a text, and what went wrong in it
pub record Shown : Type 0 where
  pub text : Text
  pub errors : List Error

-- the pattern as its bundle formats it, or the id alone where no bundle has one
abbrev pub shown_of : {C : Type 0} → Text → Map (Value C) → Option (Bundle C × Pattern) → Shown
shown_of id args None = record { text = id; errors = [] }
shown_of id args (Some found) =
    let means = written_pattern found.0 args found.1 in
    record { text = formatted found.0 means.value; errors = means.errors }

-- the same by substitution
abbrev pub substituted_of : {C : Type 0} → Text → Map (Value C) → Option (Bundle C × Pattern)
    → Shown
substituted_of id args None = record { text = id; errors = [] }
substituted_of id args (Some found) =
    let means = substituted_pattern found.0 args found.1 in
    record { text = formatted found.0 means.value; errors = means.errors }

-- What is written: the same text, of which the formatter isn't asked as a whole.
abbrev pub written_of : {C : Type 0} → Text → Map (Value C) → Option (Bundle C × Pattern) → Shown
written_of id args None = record { text = id; errors = [] }
written_of id args (Some found) =
    let means = written_pattern found.0 args found.1 in
    record { text = means.value; errors = means.errors }

-- and by substitution
abbrev pub written_by_substitution : {C : Type 0} → Text → Map (Value C)
    → Option (Bundle C × Pattern) → Shown
written_by_substitution id args None = record { text = id; errors = [] }
written_by_substitution id args (Some found) =
    let means = substituted_pattern found.0 args found.1 in
    record { text = means.value; errors = means.errors }

-- what is done then, as events
abbrev pub events_of : Text → Map (Value Text) → Option (Bundle Text × Pattern) → List Event
events_of id args None = writes id
events_of id args (Some found) = written_events found.0 args found.1

-- which opens no more placeables than the limit of that bundle
abbrev pub IsWithin : {C : Type 0} → Map (Value C) → Option (Bundle C × Pattern) → Type 0
IsWithin args None = ⊤
IsWithin args (Some found) = (substituted_pattern found.0 args found.1).opened ≤ found.0.limit

-- ---- of these bundles

-- the value of a message
abbrev pub chain_value : {C : Type 0} → Text → Map (Value C) → List (Bundle C) → Shown
chain_value id args bundles = shown_of id args (first_with (value_at id) bundles)

-- an attribute of a message
abbrev pub chain_attribute : {C : Type 0} → Text → Text → Map (Value C) → List (Bundle C) → Shown
chain_attribute id name args bundles = shown_of id args (first_with (attribute_at id name) bundles)

-- ---- what the calls give

-- Of a pattern that was found, or of the id alone.
pub record GivesOrId (id : Text) (args : Map (Value Text)) (found : Option (Bundle Text × Pattern)) (result : Result (CowStr Global) AllocError) (errors errors' : Errors) : Type 0 where
  -- by substitution, where that opens no more placeables than the limit
  pub within : IsWithin args found → GivesText (substituted_of id args found).text (substituted_of id args found).errors result errors.items errors'.items
  -- with the budget, in every case
  pub whole : GivesText (shown_of id args found).text (shown_of id args found).errors result errors.items errors'.items
  -- whatever is answered
  pub prefix : AddsPrefix (shown_of id args found).errors errors.items errors'.items

-- What is borrowed: the id, or a pattern that is one text, of a bundle without transform and formatter.
abbrev pub BorrowsOrId : {M C F G X : Type 0} → Text
    → Option (FluentBundle M C F G X × Pattern) → Result (CowStr Global) AllocError → Type 0
BorrowsOrId id None result = Borrows result id
BorrowsOrId id (Some found) result = BorrowsText found.0 found.1 result

-- ---- in memory of its own

-- The text is answered, and the errors are added.
pub record GivesOwned (all : Text) (errors : List Error) (result : Result (String Global) AllocError) (list list' : List FluentError) : Type 0 where
  pub text : IfOk result (λ t. string_bytes t ≡ all)
  pub adds : OnOk result (AddsAll errors list list')

pub record OwnsOrId (id : Text) (args : Map (Value Text)) (found : Option (Bundle Text × Pattern)) (result : Result (String Global) AllocError) (errors errors' : Errors) : Type 0 where
  pub within : IsWithin args found → GivesOwned (substituted_of id args found).text (substituted_of id args found).errors result errors.items errors'.items
  pub whole : GivesOwned (shown_of id args found).text (shown_of id args found).errors result errors.items errors'.items
  pub prefix : AddsPrefix (shown_of id args found).errors errors.items errors'.items

-- ---- what they write

pub record WritesOrId (id : Text) (args : Map (Value Text)) (found : Option (Bundle Text × Pattern)) (result : Result (Unit {0}) WriteFault) (held held' : Option Text) (errors errors' : Errors) : Type 0 where
  -- by substitution, where that opens no more placeables than the limit
  pub within : IsWithin args found → OnOk result (WritesAll (written_by_substitution id args found).text (written_by_substitution id args found).errors held held' errors.items errors'.items)
  -- with the budget, in every case
  pub whole : OnOk result (WritesAll (written_of id args found).text (written_of id args found).errors held held' errors.items errors'.items)
  -- whatever is answered, a prefix of its events happened
  pub prefix : WritesPrefix (events_of id args found) held held' errors.items errors'.items

-- What takes no memory: the id, or texts alone, of a bundle without transform.
abbrev pub NeedsNoMemory : {M C F G X : Type 0} → Option (FluentBundle M C F G X × Pattern) → Type 0
NeedsNoMemory None = ⊤
NeedsNoMemory (Some found) = IsTextAlone found.1 × (transform_in found.0 ≡ None)

-- ---- of bundles that are asked in turn: by what they mean, by what an application's values show, with arguments, of an id and what is asked for by it

module _ {C : Type 0} (bundles : List (Bundle Text)) (content : C → Text) (args : Option (Bor (FluentArgs C))) (id : Text) (ask : Bundle Text → Option Pattern) where
  abbrev pub GivesFirst : Result (CowStr Global) AllocError → Change Errors → Type 0
  GivesFirst result errors = GivesOrId id (arguments_view content args) (first_with ask bundles) result (old errors) (new errors)

  abbrev pub OwnsFirst : Result (String Global) AllocError → Change Errors → Type 0
  OwnsFirst result errors = OwnsOrId id (arguments_view content args) (first_with ask bundles) result (old errors) (new errors)

  abbrev pub WritesFirst : {W : Type 0} → Result (Unit {0}) WriteFault → (W → Option Text) → Change (Counting W) → Change Errors → Type 0
  WritesFirst result contents w errors = WritesOrId id (arguments_view content args) (first_with ask bundles) result (before contents w) (later contents w) (old errors) (new errors)

-- ---- of the bundles of the code, each by what it means

module _ {M C F G X : Type 0} (of : FluentBundle M C F G X → Bundle Text) (bundles : List (FluentBundle M C F G X)) where
  abbrev pub BorrowsFirst : Text → (Bundle Text → Option Pattern) → Result (CowStr Global) AllocError → Type 0
  BorrowsFirst id ask result = BorrowsOrId id (first_with (λ b. ask (of b)) bundles) result

  -- no allocation fails
  abbrev pub FirstTakesNoMemory : (Bundle Text → Option Pattern) → Result (Unit {0}) WriteFault → Type 0
  FirstTakesNoMemory ask result = NeedsNoMemory (first_with (λ b. ask (of b)) bundles) → result ≢ Err Memory
