-- The name of a problem, and whether it is an error.
use Rattle.std.specs.Prelude.{Bool, true, false, codes}
use Rattle.fluent_ast.specs.Tree.{Text}
use Rattle.fluent_patterns.specs.Found.{Problem, unreadable, taken_id, function_id, repeated_attribute, missing_message, missing_attribute, missing_value, missing_term, missing_term_attribute, missing_function, not_a_function, cycle, too_many_placeables, may_open_too_many, leads_to, not_given, unused_argument, no_number, no_category, never_comes, repeated_variant, not_translated, value_not_translated, value_not_in_reference, not_in_reference, unknown_variable, variable_left_out, term_left_out, function_left_out}

abbrev pub name_of : Problem → Text
name_of (unreadable start expected) = codes "unreadable"
name_of (taken_id first) = codes "id-taken"
name_of function_id = codes "function-id"
name_of repeated_attribute = codes "repeated-attribute"
name_of (missing_message id) = codes "missing-message"
name_of (missing_attribute id a) = codes "missing-attribute"
name_of (missing_value id) = codes "missing-value"
name_of (missing_term id) = codes "missing-term"
name_of (missing_term_attribute id a) = codes "missing-term-attribute"
name_of (missing_function id) = codes "missing-function"
name_of (not_a_function id) = codes "not-a-function"
name_of (cycle next) = codes "cycle"
name_of (too_many_placeables count limit) = codes "too-many-placeables"
name_of (may_open_too_many count limit) = codes "may-open-too-many"
name_of (leads_to place) = codes "refers-to-unclean"
name_of (not_given v term) = codes "variable-not-given"
name_of (unused_argument v term) = codes "unused-argument"
name_of no_number = codes "not-a-number"
name_of (no_category key) = codes "plural-category"
name_of (never_comes key) = codes "unused-category"
name_of (repeated_variant key) = codes "repeated-variant"
name_of value_not_translated = codes "not-translated"
name_of value_not_in_reference = codes "not-in-reference"
name_of not_translated = codes "not-translated"
name_of not_in_reference = codes "not-in-reference"
name_of (unknown_variable v) = codes "unknown-variable"
name_of (variable_left_out v) = codes "variable-left-out"
name_of (term_left_out term) = codes "term-left-out"
name_of (function_left_out id) = codes "function-left-out"

-- the others are warnings
abbrev pub is_error : Problem → Bool
is_error (unreadable start expected) = true
is_error (taken_id first) = true
is_error function_id = true
is_error repeated_attribute = false
is_error (missing_message id) = true
is_error (missing_attribute id a) = true
is_error (missing_value id) = true
is_error (missing_term id) = true
is_error (missing_term_attribute id a) = true
is_error (missing_function id) = false
is_error (not_a_function id) = true
is_error (cycle next) = true
is_error (too_many_placeables count limit) = true
is_error (may_open_too_many count limit) = false
is_error (leads_to place) = true
is_error (not_given v term) = false
is_error (unused_argument v term) = false
is_error no_number = false
is_error (no_category key) = false
is_error (never_comes key) = false
is_error (repeated_variant key) = false
is_error value_not_translated = true
is_error value_not_in_reference = false
is_error not_translated = true
is_error not_in_reference = false
is_error (unknown_variable v) = true
is_error (variable_left_out v) = false
is_error (term_left_out term) = false
is_error (function_left_out id) = false
