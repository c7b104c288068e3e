-- Worked examples: references, environments, paths, functions, and the calls of a bundle.
use Rattle.std.specs.Prelude.{◌≡◌, List, [], ◌∷◌, ◌++◌, map, Bool, true, false, None, codes}
use Rattle.fluent_ast.specs.Tree as t
use Rattle.fluent_ast.specs.Tree.{Text, Element, Pattern, nothing, no_attribute, attribute, pattern_of, text, inlines_of, nameds_of, message_entry, term_entry, junk_entry, Inline, string, term, nested, inline, no_call, call, arguments}
use Rattle.fluent_ast.specs.Fallback.{fallback, in_braces}
use Rattle.fluent_semantics.specs.Value.{custom_value, no_value, error_value}
use Rattle.fluent_semantics.specs.Arguments.{get}
use Rattle.fluent_semantics.specs.Errors as errors
use Rattle.fluent_semantics.specs.Errors.{Error, resolver_error, parser_error, overriding, message_kind, term_kind, function_kind, lost, to_function, to_message, to_term, to_variable, missing_default, too_many_placeables, error_text, reference_of}
use Rattle.fluent_semantics.specs.Bundle.{Bundle, Function, Call, add_resource, add_resource_overriding, add_function, add_builtins, set_use_isolating, after, answered, found, without_value, message_target, is_message, is_term, is_function}
use Rattle.fluent_semantics.specs.Examples.{NoCustom, only, say, put, var, str, num, msg, msg_attribute, own, own_with, fun, named, case, case_number, default, choose, entry, private, bundle, source, whole, with, words, answers, text_length, first_argument, F, P, texts, unknown_variable, cyclic, PatternWrites, MessageGives}
use Rattle.fluent_semantics.specs.Users.{IsAdding, IsLiteral, IsClosed}

abbrev pub error : Text → Text
error t = codes "Resolver error: " ++ t

abbrev pub itself : Bundle NoCustom
itself = source (entry "foo" (put (msg "foo") ∷ []) ∷ [])

abbrev pub twin : List Element
twin = choose (var "n") (case_number "1" (say "x" ∷ []) ∷ default "other" (put (own_with "t" [] (named "n" (num "1") ∷ [])) ∷ []) ∷ []) ∷ []

-- a message and a term of one content
abbrev pub twins : Bundle NoCustom
twins = source (entry "a" twin ∷ private "t" twin ∷ [])

abbrev pub prefixed : Bundle NoCustom
prefixed = source (entry "foo" (say "x" ∷ put (msg "foo") ∷ []) ∷ [])

-- b and c refer to each other
abbrev pub below : Bundle NoCustom
below = source (entry "a" (put (msg "b") ∷ []) ∷ entry "b" (say "x" ∷ put (msg "c") ∷ []) ∷ entry "c" (say "y" ∷ put (msg "b") ∷ []) ∷ entry "d" (put (msg "a") ∷ []) ∷ [])

-- v has the content of a variant of top
abbrev pub variants : Bundle NoCustom
variants = source (entry "top" (choose (str "x") (default "x" (put (msg "w") ∷ []) ∷ []) ∷ []) ∷ entry "other" (choose (str "y") (default "x" (put (msg "w") ∷ []) ∷ []) ∷ []) ∷ entry "w" (say "q" ∷ put (msg "v") ∷ []) ∷ entry "v" (put (msg "w") ∷ []) ∷ [])

-- patterns that refer to themselves, by their content
pub record Cycles : Type 0 where
  pub itself : MessageGives itself [] "foo" (codes "{foo}") (cyclic ∷ [])
  pub same_content : MessageGives twins (with "n" (whole 2)) "a" (codes "{-t}") (cyclic ∷ [])
  pub added_again : MessageGives (after (add_resource_overriding (private "t" twin ∷ [])) twins) (with "n" (whole 2)) "a" (codes "{-t}") (cyclic ∷ [])
  pub by_hand : PatternWrites prefixed [] (pattern_of (say "x" ∷ put (msg "foo") ∷ [])) (codes "x{foo}") (cyclic ∷ [])
  pub below_the_first : MessageGives below [] "a" (codes "xy{b}") (cyclic ∷ [])
  pub below_the_second : MessageGives below [] "d" (codes "xy{b}") (cyclic ∷ [])
  pub variant_not_on_the_path : MessageGives variants [] "top" (codes "q{w}") (cyclic ∷ [])
  pub default_not_on_the_path : MessageGives variants [] "other" (codes "q{w}") (cyclic ∷ [])
  pub other_content : PatternWrites prefixed [] (pattern_of (say "x" ∷ say "" ∷ put (msg "foo") ∷ [])) (codes "xx{foo}") (cyclic ∷ [])

abbrev pub terms : Bundle NoCustom
terms = source (private "u" (say "u" ∷ []) ∷ private "t" (put (own "u") ∷ put (var "n") ∷ []) ∷ private "v" (put (var "n") ∷ [])
    ∷ entry "m" (put (var "n") ∷ []) ∷ private "w" (put (msg "m") ∷ [])
    ∷ entry "outer" (put (own_with "t" [] (named "n" (num "1") ∷ [])) ∷ [])
    ∷ entry "missing" (put (own "v") ∷ [])
    ∷ entry "below" (put (own_with "w" [] (named "n" (num "1") ∷ [])) ∷ [])
    ∷ entry "twice" (put (own "u") ∷ put (own "u") ∷ [])
    ∷ entry "positional" (put (own_with "u" (var "q" ∷ []) []) ∷ [])
    ∷ entry "last" (put (own_with "v" [] (named "n" (num "1") ∷ named "n" (num "2") ∷ [])) ∷ []) ∷ [])

-- terms and their environments
pub record Terms : Type 0 where
  pub outer_stands_again : MessageGives terms (with "n" (whole 9)) "outer" (codes "u" ++ (F ++ (codes "1" ++ P))) []
  pub missing : MessageGives terms (with "n" (whole 9)) "missing" (codes "{$n}") []
  pub below_a_message : MessageGives terms (with "n" (whole 9)) "below" (codes "1") []
  pub twice : MessageGives terms [] "twice" (codes "uu") []
  pub positional : MessageGives terms [] "positional" (codes "u") (unknown_variable "q" ∷ [])
  pub last_of_a_name : MessageGives terms [] "last" (codes "2") []

abbrev pub attributes : Bundle NoCustom
attributes = source (message_entry (codes "k") None ((codes "x", pattern_of (say "v" ∷ [])) ∷ []) ∷ entry "a" (put (msg "k") ∷ []) ∷ entry "b" (put (msg_attribute "k" "x") ∷ []) ∷ entry "c" (put (msg_attribute "k" "y") ∷ [])
    ∷ entry "d" (put (fun "F" (var "q" ∷ []) []) ∷ []) ∷ entry "e" (put (own "zz") ∷ []) ∷ entry "f" (put (own "k") ∷ []) ∷ entry "g" (put (msg_attribute "zz" "x") ∷ []) ∷ entry "h" (put (term (codes "zz") (attribute (codes "x")) no_call) ∷ []) ∷ [])

-- what can't be found
pub record Lost : Type 0 where
  pub without_value : MessageGives attributes [] "a" (codes "{k}") (error (codes "No value: k") ∷ [])
  pub attribute : MessageGives attributes [] "b" (codes "v") []
  pub no_attribute : MessageGives attributes [] "c" (codes "{k.y}") (error (codes "Unknown attribute: k.y") ∷ [])
  pub function : MessageGives attributes [] "d" (codes "{F()}") (unknown_variable "q" ∷ error (codes "Unknown function: F()") ∷ [])
  pub term : MessageGives attributes [] "e" (codes "{-zz}") (error (codes "Unknown term: -zz") ∷ [])
  pub message_is_no_term : MessageGives attributes [] "f" (codes "{-k}") (error (codes "Unknown term: -k") ∷ [])
  pub attribute_of_no_message : MessageGives attributes [] "g" (codes "{zz.x}") (error (codes "Unknown attribute: zz.x") ∷ [])
  pub attribute_of_no_term : MessageGives attributes [] "h" (codes "{-zz.x}") (error (codes "Unknown attribute: -zz.x") ∷ [])
  pub no_reference : in_braces (fallback (str "x")) ≡ codes "{\"x\"}"
  pub no_error : map reference_of (str "x" ∷ num "1" ∷ nested (inline (msg "m")) ∷ []) ≡ None ∷ None ∷ None ∷ []

abbrev pub with_function : Function NoCustom → Bundle NoCustom
with_function f = bundle (add_function (codes "F") f ∷ add_resource (entry "p" (say "a" ∷ put (fun "F" [] []) ∷ say "b" ∷ [])
    ∷ entry "s" (choose (fun "F" [] []) (case "a" (say "x" ∷ []) ∷ default "b" (say "y" ∷ []) ∷ []) ∷ [])
    ∷ entry "l" (put (fun "F" (str "12345" ∷ []) []) ∷ []) ∷ entry "q" (put (fun "F" (str "q" ∷ []) []) ∷ []) ∷ entry "r" (put (fun "F" [] []) ∷ []) ∷ []) ∷ [])

abbrev pub without_function : Bundle NoCustom
without_function = source (entry "s" (choose (fun "F" [] []) (case "a" (say "x" ∷ []) ∷ default "b" (say "y" ∷ []) ∷ []) ∷ []) ∷ entry "x" (put (fun "NUMBER" (var "n" ∷ []) []) ∷ []) ∷ [])

-- functions of the application, and their answers
pub record Functions : Type 0 where
  pub none : MessageGives (with_function (answers no_value)) [] "p" (codes "a" ++ (F ++ (P ++ codes "b"))) []
  pub error : MessageGives (with_function (answers error_value)) [] "p" (codes "a" ++ (F ++ (codes "F()" ++ (P ++ codes "b")))) []
  pub length : MessageGives (with_function text_length) [] "l" (codes "5") []
  pub argument : MessageGives (with_function first_argument) [] "q" (codes "q") []
  pub no_argument : MessageGives (with_function first_argument) [] "r" (codes "F()") []
  pub selects_text : MessageGives (with_function (answers (words "a"))) [] "s" (codes "x") []
  pub selects_number : MessageGives (with_function (answers (whole 1))) [] "s" (codes "y") []
  pub selects_custom : MessageGives (with_function (answers (custom_value only))) [] "s" (codes "y") []
  pub selects_none : MessageGives (with_function (answers no_value)) [] "s" (codes "y") []
  pub selects_error : MessageGives (with_function (answers error_value)) [] "s" (codes "y") []
  pub unknown_selects : MessageGives without_function [] "s" (codes "y") []
  pub missing_argument : MessageGives without_function [] "x" (codes "NUMBER()") (unknown_variable "n" ∷ [])

abbrev pub ids_of : Bundle NoCustom → List Bool
ids_of b = is_message (get (codes "foo") b.ids) ∷ is_term (get (codes "foo") b.ids) ∷ is_function (get (codes "foo") b.ids) ∷ []

abbrev pub empty : Bundle NoCustom
empty = bundle []

abbrev pub foos : Call NoCustom
foos = add_resource (entry "foo" (say "a" ∷ []) ∷ private "foo" (say "b" ∷ []) ∷ [])

abbrev pub three : List t.Entry
three = entry "a" (say "1" ∷ []) ∷ entry "a" (say "2" ∷ []) ∷ private "a" (say "3" ∷ []) ∷ []

abbrev pub added_later : Call NoCustom → Bundle NoCustom
added_later c = after c (bundle (add_resource (entry "a" (put (fun "F" [] []) ∷ []) ∷ entry "b" (put (msg "foo") ∷ []) ∷ entry "foo" (say "x" ∷ []) ∷ []) ∷ []))

abbrev pub no_builtin : Bundle NoCustom
no_builtin = bundle (add_builtins ∷ add_resource_overriding (entry "NUMBER" (say "n" ∷ []) ∷ entry "p" (put (fun "NUMBER" (num "5" ∷ []) []) ∷ []) ∷ entry "q" (put (msg "NUMBER") ∷ []) ∷ []) ∷ [])

abbrev pub repeated_attribute : Bundle NoCustom
repeated_attribute = source (message_entry (codes "k") None ((codes "x", pattern_of (say "1" ∷ [])) ∷ (codes "x", pattern_of (say "2" ∷ [])) ∷ []) ∷ [])

abbrev pub welcome : Bundle NoCustom
welcome = source (entry "intro" (say "Welcome, " ∷ put (var "name") ∷ say "." ∷ []) ∷ [])

-- adding, overriding, and what an id means
pub record Adding : Type 0 where
  pub taken : texts (answered foos empty) ≡ codes "Attempt to override an existing term: \"foo\"." ∷ []
  pub first_stands : MessageGives (after foos empty) [] "foo" (codes "a") []
  pub term_wins : ids_of (after (add_resource_overriding (private "foo" (say "c" ∷ []) ∷ [])) (after foos empty)) ≡ false ∷ true ∷ false ∷ []
  pub builtins_twice : texts (answered add_builtins (bundle (add_builtins ∷ []))) ≡ codes "Attempt to override an existing function: \"NUMBER\"." ∷ []
  pub builtins_stay : after add_builtins (bundle (add_builtins ∷ [])) ≡ bundle (add_builtins ∷ [])
  pub message_taken : texts (answered (add_resource (entry "intro" (say "Hi, " ∷ put (var "name") ∷ say "." ∷ []) ∷ [])) welcome) ≡ codes "Attempt to override an existing message: \"intro\"." ∷ []
  pub message_stands : MessageGives (after (add_resource (entry "intro" (say "Hi, " ∷ put (var "name") ∷ say "." ∷ []) ∷ [])) welcome) (with "name" (words "John")) "intro" (codes "Welcome, " ++ (F ++ (codes "John" ++ (P ++ codes ".")))) []
  pub greeting : MessageGives (bundle (add_resource (entry "hello" (say "Hi!" ∷ []) ∷ entry "goodbye" (say "Bye!" ∷ []) ∷ []) ∷ add_resource_overriding (entry "hello" (say "Another Hi!" ∷ []) ∷ []) ∷ [])) [] "hello" (codes "Another Hi!") []
  pub in_order : answered (add_resource three) empty ≡ overriding message_kind (codes "a") ∷ overriding term_kind (codes "a") ∷ []
  pub first_of_three : MessageGives (after (add_resource three) empty) [] "a" (codes "1") []
  pub no_message : is_message (get (codes "a") (after (add_resource_overriding three) empty).ids) ≡ false
  pub a_term : is_term (get (codes "a") (after (add_resource_overriding three) empty).ids) ≡ true
  pub no_value : message_target (get (codes "k") repeated_attribute.ids) no_attribute ≡ without_value
  pub first_attribute : message_target (get (codes "k") repeated_attribute.ids) (attribute (codes "x")) ≡ found (pattern_of (say "1" ∷ []))
  pub over_a_function : MessageGives no_builtin [] "p" (codes "{NUMBER()}") (error (codes "Unknown function: NUMBER()") ∷ [])
  pub its_message : MessageGives no_builtin [] "q" (codes "n") []
  pub function_later : MessageGives (added_later (add_function (codes "F") (answers (words "f")))) [] "a" (codes "f") []
  pub message_not_yet : MessageGives (bundle (add_resource (entry "a" (put (msg "b") ∷ []) ∷ []) ∷ [])) [] "a" (codes "{b}") (error (codes "Unknown message: b") ∷ [])
  pub message_later : MessageGives (bundle (add_resource (entry "a" (put (msg "b") ∷ []) ∷ []) ∷ add_resource (entry "b" (say "1" ∷ []) ∷ []) ∷ [])) [] "a" (codes "1") []
  pub message_overridden : MessageGives (bundle (add_resource (entry "a" (put (msg "b") ∷ []) ∷ []) ∷ add_resource (entry "b" (say "1" ∷ []) ∷ []) ∷ add_resource_overriding (entry "b" (say "2" ∷ []) ∷ []) ∷ [])) [] "a" (codes "2") []
  pub no_longer : MessageGives (added_later (add_resource_overriding (private "foo" (say "y" ∷ []) ∷ []))) [] "b" (codes "{foo}") (error (codes "Unknown message: foo") ∷ [])
  pub function_taken : texts (answered (add_function (codes "foo") first_argument) (after foos empty)) ≡ codes "Attempt to override an existing function: \"foo\"." ∷ []
  pub function_dropped : ids_of (after (add_function (codes "foo") first_argument) (after foos empty)) ≡ true ∷ false ∷ false ∷ []
  pub function_added : ids_of (after (add_function (codes "foo") first_argument) empty) ≡ false ∷ false ∷ true ∷ []
  pub function_answers_nothing : answered (add_function (codes "foo") first_argument) empty ≡ []
  pub overriding_answers_nothing : answered (add_resource_overriding three) (after foos empty) ≡ []
  pub junk_passed_over : ids_of (bundle (add_resource (junk_entry (codes "foo") ∷ entry "foo" (say "a" ∷ []) ∷ []) ∷ [])) ≡ true ∷ false ∷ false ∷ []
  pub junk_answers_nothing : answered (add_resource (junk_entry (codes "foo") ∷ [])) (after foos empty) ≡ []
  pub nothing_named : is_message (get (codes "F") (source []).ids) ≡ false
  pub no_function : is_function (get (codes "F") (source []).ids) ≡ false

abbrev pub with_arguments : List Inline → List (Text × Inline) → t.Call
with_arguments xs ns = call (arguments (inlines_of xs) (nameds_of ns))

-- the premises of the laws that callers rely on hold of what their names say, and of nothing beside it
pub record Premises : Type 0 where
  pub resource_adds : IsAdding {C = NoCustom} (add_resource three)
  pub function_adds : IsAdding (add_function (codes "F") first_argument)
  pub builtins_add : IsAdding {C = NoCustom} add_builtins
  pub overriding_is_another : ¬ IsAdding {C = NoCustom} (add_resource_overriding three)
  pub setting_is_another : ¬ IsAdding {C = NoCustom} (set_use_isolating true)
  pub string_literal : IsLiteral (str "a")
  pub number_literal : IsLiteral (num "1")
  pub variable_is_none : ¬ IsLiteral (var "x")
  pub message_is_none : ¬ IsLiteral (msg "m")
  pub term_is_none : ¬ IsLiteral (own "t")
  pub function_is_none : ¬ IsLiteral (fun "F" (num "1" ∷ []) [])
  pub in_braces_is_none : ¬ IsLiteral (nested (inline (str "a")))
  pub no_call_is_closed : IsClosed no_call
  pub empty_call_is_closed : IsClosed (with_arguments [] [])
  pub named_literals_are_closed : IsClosed (with_arguments [] (named "n" (num "1") ∷ named "s" (str "a") ∷ []))
  pub positional_literal_is_open : ¬ IsClosed (with_arguments (num "1" ∷ []) [])
  pub first_named_variable_is_open : ¬ IsClosed (with_arguments [] (named "x" (var "x") ∷ named "n" (num "1") ∷ []))
  pub last_named_variable_is_open : ¬ IsClosed (with_arguments [] (named "n" (num "1") ∷ named "x" (var "x") ∷ []))

-- the texts of errors
pub record ErrorTexts : Type 0 where
  pub function : error_text (resolver_error (lost (to_function (codes "F")))) ≡ codes "Resolver error: Unknown function: F()"
  pub message : error_text (resolver_error (lost (to_message (codes "id") no_attribute))) ≡ codes "Resolver error: Unknown message: id"
  pub message_attribute : error_text (resolver_error (lost (to_message (codes "id") (attribute (codes "attr"))))) ≡ codes "Resolver error: Unknown attribute: id.attr"
  pub term : error_text (resolver_error (lost (to_term (codes "id") no_attribute))) ≡ codes "Resolver error: Unknown term: -id"
  pub term_attribute : error_text (resolver_error (lost (to_term (codes "id") (attribute (codes "attr"))))) ≡ codes "Resolver error: Unknown attribute: -id.attr"
  pub variable : error_text (resolver_error (lost (to_variable (codes "x")))) ≡ codes "Resolver error: Unknown variable: $x"
  pub no_value : error_text (resolver_error (errors.no_value (codes "id"))) ≡ codes "Resolver error: No value: id"
  pub missing_default : error_text (resolver_error missing_default) ≡ codes "Resolver error: No default"
  pub cyclic : error_text (resolver_error errors.cyclic) ≡ codes "Resolver error: Cyclical dependency detected"
  pub too_many : error_text (resolver_error too_many_placeables) ≡ codes "Resolver error: Too many placeables"
  pub parser : error_text (parser_error 6 13) ≡ codes "Parser error: unreadable entry at bytes 6..13"
  pub overriding : error_text (overriding function_kind (codes "NUMBER")) ≡ codes "Attempt to override an existing function: \"NUMBER\"."
