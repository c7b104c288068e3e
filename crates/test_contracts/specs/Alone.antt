-- A message that stands alone: what ids name.
use Rattle.std.specs.Prelude.{ℕ, map, Bool, Option, Some, None, if◌then◌else◌}
use Rattle.fluent_ast.specs.Tree.{Text}
use Rattle.fluent_ast.specs.View.{attribute_view, value_view}
use Rattle.fluent_ast.specs.declared.ast.Message.{Message}
use Rattle.fluent_semantics.specs.Number.{is_text}
use Rattle.fluent_semantics.specs.Arguments.{number_function}
use Rattle.fluent_semantics.specs.Bundle.{Entry, Function, a_message}

-- the message, or nothing
abbrev pub message_if : Message → Bool → Option (Entry Text)
message_if m is_named = if is_named then Some (a_message (value_view m.value) (map attribute_view m.attributes.items)) else None

-- its own id names it, and no other id names anything
abbrev pub named : Message → Text → Option (Entry Text)
named m id = message_if m (is_text m.id.name.now id)

-- There is no function: this is an answer for the code's type of functions, a number.
abbrev pub answer : ℕ → Function Text
answer f = number_function
