-- Which messages a bundle has, their attributes, and the variables that they ask for.
use Rattle.std.specs.Prelude.{◌≡◌, Bool, true, false, List, [], ◌∷◌, ◌++◌, map, Option, Some, None, String, is_some, string_bytes}
use Rattle.std.specs.List.{filter}
use Rattle.std.specs.List.Sorted.{IsStrictlySortedBy}
use Rattle.std.specs.Ordering.{nat_cmp}
use Rattle.std.specs.Cmp.Lexicographic.{slice_cmp}
use Rattle.std.specs.Str.{IsUtf8}
use Rattle.std.proofs.Common.{Global}
use Rattle.fluent_ast.specs.Tree.{Text, attribute, no_attribute}
use Rattle.fluent_semantics.specs.Bundle.{Bundle}
use Rattle.fluent_bundle_entries.specs.MessageView.{Content}
use Rattle.fluent_bundle.specs.BundleView.{message_at}
use Rattle.fluent_places.specs.Asked.{AreAsked}
use Rattle.fluent_places.specs.Places.{Names, Place, names_of, of_message}
use Rattle.fluent_c_handles.specs.Answers.{BundleCall, IsOneText, found_at, unanswered}
use Rattle.fluent_c_handles.specs.declared.answer.Answer.TheVariants as answer
use Rattle.fluent_c_handles.specs.declared.sources.SourceFault.TheVariants as source_fault
use Rattle.fluent_c_handles.specs.declared.texts.FormatFault.{FormatFault}
use Rattle.fluent_c_handles.specs.declared.texts.FormatFault.TheVariants as format

-- ---- the ids of all

-- whether an id names a message
abbrev pub names_message : Bundle Text → Text → Bool
names_message b id = is_some (message_at id b)

-- The ids that name a message: each once, in the order of its bytes.
abbrev pub message_ids : Bundle Text → List Text
message_ids b = filter (names_message b) (map (λ e. e.0) b.ids)

-- a line for each
abbrev pub id_lines : List Text → Text
id_lines [] = []
id_lines (id ∷ ids) = id ++ 10 ∷ id_lines ids

-- these lines; or there was no memory
abbrev pub ListsIds : BundleCall
ListsIds m new (answer.Texts text lines) = (new ≡ m) × IsOneText (id_lines (message_ids (unanswered m))) text lines
ListsIds m new (answer.Fault source_fault.Memory) = new ≡ m
ListsIds m new a = ⊥

-- ---- by an id

-- why there is none of the id
abbrev pub HasNoMessage : Bundle Text → Text → FormatFault → Type 0
HasNoMessage bundle id format.NotText = ¬ (IsUtf8 id)
HasNoMessage bundle id format.NoMessage = IsUtf8 id × (is_some (message_at id bundle) ≡ false)
HasNoMessage bundle id f = ⊥

-- whether there is one of the id
abbrev pub HasMessage : Text → BundleCall
HasMessage id m new answer.Done = (new ≡ m) × (IsUtf8 id × (is_some (message_at id (unanswered m)) ≡ true))
HasMessage id m new (answer.Fault (source_fault.Format f)) = (new ≡ m) × HasNoMessage (unanswered m) id f
HasMessage id m new a = ⊥

-- ---- the attributes of one

-- their names, in the order of the source; one that stands twice is there twice
abbrev pub attribute_names : Content → List Text
attribute_names message = map (λ a. a.0) message.attributes

-- a line for each, where there is a message
abbrev pub TellsNames : Option Content → String Global → String Global → Type 0
TellsNames None text lines = ⊥
TellsNames (Some message) text lines = IsOneText (id_lines (attribute_names message)) text lines

-- the same of the message of the id; or there is none, or no memory
abbrev pub ListsAttributes : Text → BundleCall
ListsAttributes id m new (answer.Texts text lines) = (new ≡ m) × (IsUtf8 id × TellsNames (message_at id (unanswered m)) text lines)
ListsAttributes id m new (answer.Fault source_fault.Memory) = (new ≡ m) × (IsUtf8 id × (is_some (message_at id (unanswered m)) ≡ true))
ListsAttributes id m new (answer.Fault (source_fault.Format f)) = (new ≡ m) × HasNoMessage (unanswered m) id f
ListsAttributes id m new a = ⊥

-- ---- by an id and the name of an attribute, which may be empty

-- why there is none with the value or the attribute
abbrev pub HasNoPattern : Bundle Text → Text → Text → FormatFault → Type 0
HasNoPattern bundle id name format.NotText = ¬ (IsUtf8 id × IsUtf8 name)
HasNoPattern bundle id name format.NoMessage = IsUtf8 id × IsUtf8 name × (is_some (found_at id name bundle) ≡ false)
HasNoPattern bundle id name f = ⊥

-- whether there is one with the value or the attribute
abbrev pub HasPattern : Text → Text → BundleCall
HasPattern id name m new answer.Done = (new ≡ m) × (IsUtf8 id × IsUtf8 name × (is_some (found_at id name (unanswered m)) ≡ true))
HasPattern id name m new (answer.Fault (source_fault.Format f)) = (new ≡ m) × HasNoPattern (unanswered m) id name f
HasPattern id name m new a = ⊥

-- ---- the variables that a value or an attribute asks for

-- as it is referred to
abbrev pub place_at : Text → Text → Place
place_at id [] = of_message id no_attribute
place_at id (c ∷ cs) = of_message id (attribute (c ∷ cs))

-- each stands before those after it by its bytes, so none is there twice
abbrev pub Rise : List Text → Type 0
Rise = IsStrictlySortedBy (slice_cmp nat_cmp)

-- A text has a line for each variable that what stands at a place asks for, and for no other; they rise.
pub record ListsAsked (named : Names Text) (place : Place) (text : Text) : Type 0 where
  pub names : List Text
  pub asked : AreAsked named place names
  pub rise : Rise names
  pub is : text ≡ id_lines names

-- those lines, and none of errors
abbrev pub TellsAsked : Bundle Text → Place → String Global → String Global → Type 0
TellsAsked bundle place text lines = ListsAsked (names_of bundle) place (string_bytes text) × (string_bytes lines ≡ [])

-- the same of the value or the attribute; or there is none, or no memory
abbrev pub ListsVariables : Text → Text → BundleCall
ListsVariables id name m new (answer.Texts text lines) = HasPattern id name m new answer.Done × TellsAsked (unanswered m) (place_at id name) text lines
ListsVariables id name m new (answer.Fault source_fault.Memory) = HasPattern id name m new answer.Done
ListsVariables id name m new (answer.Fault (source_fault.Format f)) = (new ≡ m) × HasNoPattern (unanswered m) id name f
ListsVariables id name m new a = ⊥
