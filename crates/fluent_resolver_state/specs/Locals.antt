-- What names mean among the arguments of a term reference.
use Rattle.std.specs.Prelude.{Bool, true, false, ◌&&◌, nat_eq, length, List, [], map, Option, Some, None}
use Rattle.std.specs.List.{list_all}
use Rattle.std.specs.Borrow.{Bor}
use Rattle.std.specs.Option.{option_map, unwrap_or}
use Rattle.fluent_text.specs.Escapes.{unescaped}
use Rattle.fluent_ast.specs.Fallback.{fallback, in_braces}
use Rattle.fluent_ast.specs.Tree.{Text, Inline, string, number, function, message, term, variable, nested}
use Rattle.fluent_ast.specs.View.{inline_view}
use Rattle.fluent_ast.specs.declared.ast.CallArguments as of_call
use Rattle.fluent_ast.specs.declared.ast.CallArguments.{CallArguments}
use Rattle.fluent_ast.specs.declared.ast.NamedArgument.{NamedArgument}
use Rattle.fluent_semantics.specs.Arguments.{Map, get, set_all}
use Rattle.fluent_semantics.specs.Bundle.{Bundle, shown}
use Rattle.fluent_semantics.specs.Value.{Value, text_value, error_value, try_number}
use Rattle.fluent_values.specs.View.{named}
use Rattle.fluent_resolver_state.specs.declared.locals.Locals.{Locals}
use Rattle.fluent_resolver_state.specs.declared.locals.Locals.TheVariants as locals

abbrev pub is_literal : Inline → Bool
is_literal (string t) = true
is_literal (number t) = true
is_literal (function f a) = false
is_literal (message m a) = false
is_literal (term t a c) = false
is_literal (variable v) = false
is_literal (nested e) = false

-- the value of a literal, and of what is none an error
abbrev pub literal_value : Inline → Value Text
literal_value (string t) = text_value (unescaped t)
literal_value (number t) = try_number t
literal_value (function f a) = error_value
literal_value (message m a) = error_value
literal_value (term t a c) = error_value
literal_value (variable v) = error_value
literal_value (nested e) = error_value

-- whether the arguments are literals, each
abbrev pub are_literals : List NamedArgument → Bool
are_literals xs = list_all (λ x. is_literal (inline_view x.value)) xs

-- their names with the values of these literals
abbrev pub literal_values : List NamedArgument → List (Text × Value Text)
literal_values xs = map (λ x. (x.name.name.now, literal_value (inline_view x.value))) xs

-- whether a call has named arguments alone, each a literal
abbrev pub has_literals_alone : CallArguments → Bool
has_literals_alone a = nat_eq (length (of_call.out-CallArguments a).positional.items) 0 && are_literals (of_call.out-CallArguments a).named.items

-- the same of the named ones of a call, if there is one
abbrev pub literals_in : Option (Bor CallArguments) → List (Text × Value Text)
literals_in None = []
literals_in (Some a) = literal_values (of_call.out-CallArguments a.now).named.items

-- what names mean; of several arguments of one name the last stands
abbrev pub locals_view : {C : Type 0} → (C → Text) → Locals C → Map (Value Text)
locals_view content (locals.Values args) = named content args
locals_view content (locals.Literals a) = set_all (literals_in a) []

-- the value of a name, and an error where it has none
abbrev pub value_of : Text → Map (Value Text) → Value Text
value_of name m = unwrap_or (get name m) error_value

-- what a variable shows, whose value this is, if it has one
abbrev pub shown_or_fallback : Bundle Text → Inline → Option (Value Text) → Text
shown_or_fallback b x o = unwrap_or (option_map (shown b) o) (in_braces (fallback x))
