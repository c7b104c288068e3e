-- The resources that a bundle was given, and what it has of them.
use Rattle.std.specs.Prelude.{Bool, false, List, map, is_some, IsTrue, String, string_bytes}
use Rattle.std.specs.List.{list_any}
use Rattle.std.proofs.Common.{Global}
use Rattle.fluent_ast.specs.Tree.{Text, Entry, message_entry, term_entry, junk_entry}
use Rattle.fluent_plural_rules.specs.RuleTree.{Rules}
use Rattle.fluent_semantics.specs.Arguments.{Map, get}
use Rattle.fluent_semantics.specs.Bundle as m
use Rattle.fluent_semantics.specs.Bundle.{Bundle, add_resource, add_resource_overriding, after}
use Rattle.fluent_semantics.specs.Number.{is_text}
use Rattle.fluent_bundle_entries.specs.EntryView.{ids, message_content}
use Rattle.fluent_answers.specs.Asked.{function_of}
use Rattle.fluent_answers.specs.declared.formatter.AskedFormatter.{AskedFormatter}
use Rattle.fluent_answers.specs.declared.function.AskedFunction.{AskedFunction}
use Rattle.fluent_answers.specs.declared.own.OwnValue.{OwnValue}
use Rattle.fluent_answers.specs.declared.transform.AskedTransform.{AskedTransform}
use Rattle.fluent_bundle.specs.BundleView.{entries_in}
use Rattle.fluent_resource.specs.ResourceView.{entries_of}
use Rattle.fluent_bundle.specs.declared.bundle.FluentBundle.{FluentBundle}
use Rattle.fluent_resource.specs.declared.resource.FluentResource.{FluentResource}
use Rattle.fluent_c_handles.specs.Family.{is_asked}
use Rattle.fluent_c_handles.specs.declared.message_ids.Added.{Added}

-- ---- a bundle with a resource

-- with each entry whose id is free
abbrev pub with_free : FluentResource → Bundle Text → Bundle Text
with_free resource = after (add_resource (entries_of resource))

-- with each entry, in place of what had its id
abbrev pub with_all : FluentResource → Bundle Text → Bundle Text
with_all resource = after (add_resource_overriding (entries_of resource))

-- ---- where the messages come from

-- the entries of each resource, in order
abbrev pub given : List Added → List (List Entry)
given all = map (λ added. entries_of added.resource.now) all

-- whether an entry is a message of the id
abbrev pub is_message_of : Text → Entry → Bool
is_message_of id (message_entry name v as') = is_text name id
is_message_of id (term_entry name p as') = false
is_message_of id (junk_entry source) = false

-- whether one is among the entries of resources
abbrev pub is_among : Text → List (List Entry) → Bool
is_among id resources = list_any (list_any (is_message_of id)) resources

-- Each id that names a message is that of a message among the entries of the resources.
abbrev pub AllFrom : List (List Entry) → Map (m.Entry Text) → Type 0
AllFrom resources all = (id : Text) → IsTrue (is_some (message_content (get id all))) → IsTrue (is_among id resources)

-- the same of a bundle of the code
abbrev pub Code : Type 0
Code = FluentBundle Rules OwnValue AskedFunction AskedFormatter AskedTransform

abbrev pub ComeFrom : List Added → Code → Type 0
ComeFrom resources bundle = AllFrom (given resources) (ids function_of (entries_in bundle))

-- ---- the functions of the caller

-- Each id that stands for a function of the caller's is one of these names.
abbrev pub AreAmong : List Text → Map (m.Entry Text) → Type 0
AreAmong names all = (id : Text) → IsTrue (is_asked (get id all)) → IsTrue (list_any (is_text id) names)

abbrev pub AreDeclared : List (String Global) → Code → Type 0
AreDeclared names bundle = AreAmong (map string_bytes names) (ids function_of (entries_in bundle))
