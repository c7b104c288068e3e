-- The content of messages and bundles of the code.
use Rattle.std.specs.Prelude.{ℕ, Bool, not, is_some, List, map, Option, None, Result, Ok, Err, ◌≡◌, ◌≢◌, [], ◌∷◌, String, string_bytes}
use Rattle.std.specs.Option.{option_map, option_and_then}
use Rattle.std.specs.declared.alloc.Global.{Global}
use Rattle.fluent_ast.specs.Tree as t
use Rattle.fluent_ast.specs.Tree.{Text, Pattern}
use Rattle.fluent_intl.specs.declared.language.LanguageIdentifier.{LanguageIdentifier}
use Rattle.fluent_semantics.specs.Value.{Value, Plurals, Custom}
use Rattle.fluent_semantics.specs.Arguments.{get, set}
use Rattle.fluent_semantics.specs.Bundle.{Bundle, Function, a_function, transform_of, formatter_of, Call, after, answered}
use Rattle.fluent_bundle_entries.specs.ErrorView.{error_view}
use Rattle.fluent_values.specs.View.{value_view}
use Rattle.fluent_bundle_entries.specs.MessageView.{Content, first_named}
use Rattle.fluent_bundle_entries.specs.EntryView.{function_of, ids, message_content}
use Rattle.fluent_values.specs.declared.types.value.FluentValue.{FluentValue}
use Rattle.fluent_bundle_entries.specs.declared.entry.FunctionRef.{FunctionRef}
use Rattle.fluent_bundle_entries.specs.declared.ids.Ids.{Ids}
use Rattle.fluent_bundle.specs.declared.bundle.FluentBundle.{FluentBundle}
use Rattle.fluent_bundle.specs.declared.bundle.AddFault.{AddFault}
use Rattle.fluent_bundle.specs.declared.bundle.AddFault.TheVariants as fault

-- what the values of an application are, by what their type states
abbrev pub custom_by : (Text → Text) → (Text → Text → Bool) → Custom Text
custom_by shown alike = record { text = shown; same = alike }

-- What a bundle holds beside its locales.
pub record BundleParts (M F G X : Type 0) : Type 0 where
  pub entries : Ids F
  pub isolates : Bool
  pub transform : Option X
  pub formatter : Option G
  pub intls : M
  pub limit : ℕ
  pub alloc : Global

unfoldable pub bundle_parts : {M C F G X : Type 0} → FluentBundle M C F G X → BundleParts M F G X
bundle_parts b = record {
  entries = b.entries;
  isolates = b.use_isolating;
  transform = b.transform;
  formatter = b.formatter;
  intls = b.intls;
  limit = b.placeable_limit;
  alloc = b.alloc;
}

-- its map of ids, its transform, its formatter, its plural source, and the allocator that it keeps
abbrev pub entries_in : {M C F G X : Type 0} → FluentBundle M C F G X → Ids F
entries_in b = (bundle_parts b).entries

abbrev pub transform_in : {M C F G X : Type 0} → FluentBundle M C F G X → Option X
transform_in b = (bundle_parts b).transform

abbrev pub formatter_in : {M C F G X : Type 0} → FluentBundle M C F G X → Option G
formatter_in b = (bundle_parts b).formatter

abbrev pub intls_in : {M C F G X : Type 0} → FluentBundle M C F G X → M
intls_in b = (bundle_parts b).intls

abbrev pub alloc_in : {M C F G X : Type 0} → FluentBundle M C F G X → Global
alloc_in b = (bundle_parts b).alloc

-- The content of a bundle, by what the types of its parts state: its plural source, custom values, functions, formatter and transform.
abbrev pub meant : {M C F G X : Type 0} → (M → Plurals) → (Text → Text) → (Text → Text → Bool) → (F → Function Text) → (G → Value Text → M → Option Text) → (X → Text → Text) → FluentBundle M C F G X → Bundle Text
meant category shown alike answer formatted changed b =
    let of = bundle_parts b in
    record {
      ids = ids answer of.entries;
      isolates = of.isolates;
      transform = transform_of (option_map changed of.transform);
      formatter = formatter_of (option_map (λ g v. formatted g v of.intls) of.formatter);
      plurals = category of.intls;
      custom = custom_by shown alike;
      limit = of.limit;
    }

-- one locale, which has no part
abbrev pub IsUndetermined : LanguageIdentifier → Type 0
IsUndetermined l = (l.language ≡ None) × (l.script ≡ None) × (l.region ≡ None) × (l.variants.items ≡ [])

abbrev pub AreUndetermined : List LanguageIdentifier → Type 0
AreUndetermined [] = ⊥
AreUndetermined (l ∷ []) = IsUndetermined l
AreUndetermined (l ∷ k ∷ ls) = ⊥

abbrev pub message_at : {C : Type 0} → Text → Bundle C → Option Content
message_at id b = message_content (get id b.ids)

-- the same with the id, as `==` of messages compares it
abbrev pub message_entry_at : {C : Type 0} → Text → Bundle C → Option t.Entry
message_entry_at id b = option_map (λ c. t.message_entry id c.value c.attributes) (message_at id b)

-- the value of the message that an id names
abbrev pub value_at : {C : Type 0} → Text → Bundle C → Option Pattern
value_at id b = option_and_then (λ message. message.value) (message_at id b)

-- its first attribute of the name
abbrev pub attribute_at : {C : Type 0} → Text → Text → Bundle C → Option Pattern
attribute_at id name b = option_and_then (λ message. option_map (λ a. a.1) (first_named name message.attributes)) (message_at id b)

-- a function that was looked up, if there is one
abbrev pub function_seen : {F : Type 0} → (F → Function Text) → Option (FunctionRef F) → Option (Function Text)
function_seen answer found = option_map (function_of answer) found

-- What a value is shown as by a formatter, if there is one, under a plural source.
abbrev pub ShownBy : {M C G : Type 0} → (C → Text) → (G → Value Text → M → Option Text) → Option G → FluentValue C → M → Option (String Global) → Type 0
ShownBy content formatted formatter value intls text = option_map string_bytes text ≡ formatter_of (option_map (λ g v. formatted g v intls) formatter) (value_view content value)

-- a formatter, if there is one, under a plural source
abbrev pub shown_by : {M G : Type 0} → (G → Value Text → M → Option Text) → M → Option G → Option (Value Text → Option Text)
shown_by formatted intls formatter = option_map (λ f v. formatted f v intls) formatter

-- ---- calls

-- From old, a call answered so and left new: the errors are exactly those of what was not taken.
abbrev pub AnswersCall : {C : Type 0} → Bundle C → Call C → Bundle C → Result (Unit {0}) AddFault → Type 0
AnswersCall old call new (Ok u) = (new ≡ after call old) × (answered call old ≡ [])
AnswersCall old call new (Err (fault.Overriding errors)) = (new ≡ after call old) × (map error_view errors.items ≡ answered call old) × (answered call old ≢ [])
AnswersCall old call new (Err fault.Memory) = new ≡ old

-- a bundle in which an id names this function, whatever it named
abbrev pub with_function : {C : Type 0} → Text → Function C → Bundle C → Bundle C
with_function id f b = record b { ids = set id (a_function f) b.ids }

-- whether a bundle changes no text
abbrev pub is_plain : {M C F G X : Type 0} → FluentBundle M C F G X → Bool
is_plain b = not (is_some (transform_in b))

-- whether a bundle shows each value as its own text
abbrev pub shows_own : {M C F G X : Type 0} → FluentBundle M C F G X → Bool
shows_own b = not (is_some (formatter_in b))

-- What a bundle's meaning does not show is as before, but for its transform and its formatter: its locales and its plural source.
pub record KeepsLanguages {M C F G X : Type 0} (b b' : FluentBundle M C F G X) : Type 0 where
  pub locales : b'.locales ≡ b.locales
  pub intls : intls_in b' ≡ intls_in b

-- The same, and it holds the transform and the formatter that it held.
pub record KeepsSettings {M C F G X : Type 0} (b b' : FluentBundle M C F G X) : Type 0 where
  pub beside : KeepsLanguages b b'
  pub transform : transform_in b' ≡ transform_in b
  pub formatter : formatter_in b' ≡ formatter_in b
