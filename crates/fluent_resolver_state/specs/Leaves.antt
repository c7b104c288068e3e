-- Arguments in which nothing else stands.
use Rattle.std.specs.Prelude.{List, [], ◌∷◌, ◌++◌, map, Bool, true, false, ◌&&◌, Option}
use Rattle.std.specs.List.{list_all}
use Rattle.std.specs.Option.{option_map, unwrap_or}
use Rattle.fluent_text.specs.Escapes.{unescaped}
use Rattle.fluent_ast.specs.Tree.{Text, Inline, string, number, function, message, term, variable, nested}
use Rattle.fluent_ast.specs.View.{inline_view}
use Rattle.fluent_ast.specs.declared.ast.InlineExpression.{InlineExpression}
use Rattle.fluent_ast.specs.declared.ast.NamedArgument.{NamedArgument}
use Rattle.fluent_ast.specs.declared.ast.CallArguments as of_call
use Rattle.fluent_ast.specs.declared.ast.CallArguments.{CallArguments}
use Rattle.fluent_semantics.specs.Arguments.{get, set_all}
use Rattle.fluent_semantics.specs.Bundle.{function_found}
use Rattle.fluent_semantics.specs.Events.{Event, tells}
use Rattle.fluent_semantics.specs.Errors.{Error}
use Rattle.fluent_semantics.specs.Value.{Value, text_value, try_number, error_value}
use Rattle.fluent_semantics.specs.Walk.{Environment, variables}
use Rattle.fluent_resolver_state.specs.Happened.{answer_events, variable_errors}
use Rattle.fluent_resolver_state.specs.Status.{Status}

-- a literal or a variable
abbrev pub is_leaf : Inline → Bool
is_leaf (string t) = true
is_leaf (number t) = true
is_leaf (function f a) = false
is_leaf (message m a) = false
is_leaf (term t a c) = false
is_leaf (variable v) = true
is_leaf (nested e) = false

-- its value, where variables are looked up here; of what is none an error
abbrev pub leaf_value : Environment Text → Inline → Value Text
leaf_value env (string t) = text_value (unescaped t)
leaf_value env (number t) = try_number t
leaf_value env (function f a) = error_value
leaf_value env (message m a) = error_value
leaf_value env (term t a c) = error_value
leaf_value env (variable v) = unwrap_or (get v (variables env)) error_value
leaf_value env (nested e) = error_value

-- what is reported where it has none
abbrev pub leaf_errors : Environment Text → Inline → List Error
leaf_errors env (string t) = []
leaf_errors env (number t) = []
leaf_errors env (function f a) = []
leaf_errors env (message m a) = []
leaf_errors env (term t a c) = []
leaf_errors env (variable v) = variable_errors env (variable v) (get v (variables env))
leaf_errors env (nested e) = []

-- ---- of arguments

abbrev pub are_leaves : List InlineExpression → Bool
are_leaves xs = list_all (λ x. is_leaf (inline_view x)) xs

abbrev pub are_named_leaves : List NamedArgument → Bool
are_named_leaves xs = list_all (λ x. is_leaf (inline_view x.value)) xs

abbrev pub leaf_values : Environment Text → List InlineExpression → List (Value Text)
leaf_values env xs = map (λ x. leaf_value env (inline_view x)) xs

abbrev pub named_leaf_values : Environment Text → List NamedArgument → List (Text × Value Text)
named_leaf_values env xs = map (λ x. (x.name.name.now, leaf_value env (inline_view x.value))) xs

abbrev pub errors_of_leaves : Environment Text → List InlineExpression → List Error
errors_of_leaves env [] = []
errors_of_leaves env (x ∷ xs) = leaf_errors env (inline_view x) ++ errors_of_leaves env xs

abbrev pub errors_of_named_leaves : Environment Text → List NamedArgument → List Error
errors_of_named_leaves env [] = []
errors_of_named_leaves env (x ∷ xs) = leaf_errors env (inline_view x.value) ++ errors_of_named_leaves env xs

-- ---- of calls

-- whether each argument is a literal or a variable
abbrev pub has_leaves_alone : CallArguments → Bool
has_leaves_alone a = are_leaves (of_call.out-CallArguments a).positional.items && are_named_leaves (of_call.out-CallArguments a).named.items

abbrev pub errors_of_call : CallArguments → Environment Text → List Error
errors_of_call a env = errors_of_leaves env (of_call.out-CallArguments a).positional.items ++ errors_of_named_leaves env (of_call.out-CallArguments a).named.items

-- a function of this id, if there is one, is asked with these
abbrev pub leaf_answer : {B : Type 0} → Text → CallArguments → Status B → Option (Value Text)
leaf_answer id a s = option_map (λ f. f (leaf_values s.environment (of_call.out-CallArguments a).positional.items) (set_all (named_leaf_values s.environment (of_call.out-CallArguments a).named.items) [])) (function_found (get id s.bundle.ids))

-- what writing the answer does
abbrev pub events_of_leaf_answer : {B : Type 0} → InlineExpression → Text → CallArguments → Status B → List Event
events_of_leaf_answer x id a s = tells (errors_of_call a s.environment) ++ answer_events s.bundle (inline_view x) (leaf_answer id a s)
