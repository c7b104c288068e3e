-- What ids name, by content.
use Rattle.std.specs.Prelude.{List, map, Option, Some, None}
use Rattle.std.specs.Borrow.{Bor}
use Rattle.std.specs.List.{filter_map}
use Rattle.std.specs.Option.{option_map}
use Rattle.fluent_ast.specs.Tree.{Text, Pattern, Attributes}
use Rattle.fluent_ast.specs.View as view
use Rattle.fluent_ast.specs.View.{attribute_view, pattern_view}
use Rattle.fluent_ast.specs.declared.ast.Message.{Message}
use Rattle.fluent_ast.specs.declared.ast.Term.{Term}
use Rattle.fluent_references.specs.Slots.{slots, named}
use Rattle.fluent_semantics.specs.Arguments.{Map, number_function}
use Rattle.fluent_semantics.specs.Bundle.{Function, a_message, a_term, a_function, number_builtin}
use Rattle.fluent_semantics.specs.Bundle as m
use Rattle.std.specs.Ordering.{nat_cmp}
use Rattle.std.specs.Cmp.Lexicographic.{slice_cmp}
use Rattle.std.specs.FinMap.{from_entries, entries}
use Rattle.fluent_bundle_entries.specs.MessageView.{Content, content_of}
use Rattle.fluent_bundle_entries.specs.declared.entry.Entry.{Entry}
use Rattle.fluent_bundle_entries.specs.declared.entry.Entry.TheVariants as entry
use Rattle.fluent_bundle_entries.specs.declared.entry.FunctionRef.{FunctionRef}
use Rattle.fluent_bundle_entries.specs.declared.entry.FunctionRef.TheVariants as function
use Rattle.fluent_bundle_entries.specs.declared.ids.Ids.{Ids}

-- the finite map of pairs, of which the first of a name stands
abbrev pub by_name : {A : Type 0} → List (Text × A) → Map A
by_name es = entries (from_entries {R = slice_cmp nat_cmp} es)

abbrev pub entry_of : {F : Type 0} → (F → Function Text) → Entry F → m.Entry Text
entry_of answer (entry.Message x) = a_message (view.value_view x.now.value) (map attribute_view x.now.attributes.items)
entry_of answer (entry.Term x) = a_term (pattern_view x.now.value) (map attribute_view x.now.attributes.items)
entry_of answer (entry.Function f) = a_function (answer f)
entry_of answer entry.Number = number_builtin

-- each id that names something, with it
abbrev pub filled : {X Y : Type 0} → (X → Y) → List (Text × Option X) → List (Text × Y)
filled f ss = filter_map (λ s. option_map (λ x. (s.0, f x)) (named s.0 ss)) ss

unfoldable pub ids : {F : Type 0} → (F → Function Text) → Ids F → Map (m.Entry Text)
ids answer m = by_name (filled (λ s. entry_of answer s.entry) (slots m.known))

-- the message that is given, without its id
abbrev pub given_message : Option (Bor Message) → Option Content
given_message found = option_map (λ x. content_of x.now) found

-- the message that an id names
abbrev pub message_content : {C : Type 0} → Option (m.Entry C) → Option Content
message_content (Some (a_message v as')) = Some (record { value = v; attributes = as' })
message_content _ = None

-- a term without its id
pub record TermContent : Type 0 where
  pub value : Pattern
  pub attributes : Attributes

abbrev pub term_content_of : Term → TermContent
term_content_of x = record { value = pattern_view x.value; attributes = map attribute_view x.attributes.items }

-- the term that is given, without its id
abbrev pub given_term : Option (Bor Term) → Option TermContent
given_term found = option_map (λ x. term_content_of x.now) found

-- the term that an id names
abbrev pub term_content : {C : Type 0} → Option (m.Entry C) → Option TermContent
term_content (Some (a_term p as')) = Some (record { value = p; attributes = as' })
term_content _ = None

-- the function that is referred to
abbrev pub function_of : {F : Type 0} → (F → Function Text) → FunctionRef F → Function Text
function_of answer (function.Own f) = answer f.now
function_of answer function.Number = number_function
