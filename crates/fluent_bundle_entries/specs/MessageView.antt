-- The content of messages and attributes as a caller sees them.
use Rattle.std.specs.Prelude.{◌≡◌, Option, Some, None, map, drop, slice_get, [], ◌∷◌, if◌then◌else◌}
use Rattle.std.specs.Option.{option_map}
use Rattle.std.specs.Slice.Iter.{iter_rest}
use Rattle.fluent_ast.specs.Tree as t
use Rattle.fluent_ast.specs.Tree.{Text, Pattern, Attributes}
use Rattle.fluent_ast.specs.View as view
use Rattle.fluent_ast.specs.View.{attribute_view}
use Rattle.fluent_ast.specs.declared.ast.Message.{Message}
use Rattle.fluent_semantics.specs.Number.{is_text}
use Rattle.fluent_bundle_entries.specs.declared.message.FluentMessage.{FluentMessage}
use Rattle.fluent_bundle_entries.specs.declared.message.FluentAttribute.{FluentAttribute}
use Rattle.fluent_bundle_entries.specs.declared.message.Attributes.{Attributes as IteratedAttributes}

-- a message without its id: a value, attributes, or both
pub record Content : Type 0 where
  pub value : Option Pattern
  pub attributes : Attributes

abbrev pub content_of : Message → Content
content_of m = record { value = view.value_view m.value; attributes = map attribute_view m.attributes.items }

unfoldable pub message_view : FluentMessage → Content
message_view m = content_of m.node.now

-- a message with its id, as `==` compares it
unfoldable pub entry_seen : FluentMessage → t.Entry
entry_seen m = view.message_view m.node.now

-- an attribute: its name and its value
unfoldable pub attribute_content : FluentAttribute → Text × Pattern
attribute_content a = attribute_view a.node.now

-- the attributes that an iterator has still to give
unfoldable pub attributes_left : IteratedAttributes → Attributes
attributes_left a = map attribute_view (iter_rest a.rest)

-- what is made of a message has its content, and its id
abbrev pub IsOfMessage : Message → FluentMessage → Type 0
IsOfMessage m made = (message_view made ≡ content_of m) × (entry_seen made ≡ view.message_view m)

-- the first of the attributes that are left was given, and then they are one less
abbrev pub GivesFirst : IteratedAttributes → Option FluentAttribute → IteratedAttributes → Type 0
GivesFirst old given new = (option_map attribute_content given ≡ slice_get (attributes_left old) 0) × (attributes_left new ≡ drop 1 (attributes_left old))

-- the first of a name among attributes
abbrev pub first_named : Text → Attributes → Option (Text × Pattern)
first_named name [] = None
first_named name (a ∷ as') = if is_text a.0 name then Some a else first_named name as'

-- the first attribute of a name in a message
abbrev pub attribute_named : Text → FluentMessage → Option (Text × Pattern)
attribute_named name m = first_named name (message_view m).attributes
