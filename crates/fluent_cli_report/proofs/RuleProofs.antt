-- Each kind of problem has a rule.
use Rattle.std.proofs.Common.{refl}
use Rattle.fluent_patterns.specs.Found.{unreadable, taken_id, function_id, repeated_attribute, missing_message, missing_attribute, missing_value, missing_term, missing_term_attribute, missing_function, not_a_function, cycle, too_many_placeables, may_open_too_many, leads_to, not_given, unused_argument, no_number, no_category, never_comes, repeated_variant, not_translated, value_not_translated, value_not_in_reference, not_in_reference, unknown_variable, variable_left_out, term_left_out, function_left_out}
use Rattle.fluent_cli_report.specs.Rules.{EachHasRule, UnreadHasRule}

pub each_has_rule : EachHasRule
each_has_rule (unreadable start expected) = refl
each_has_rule (taken_id first) = refl
each_has_rule function_id = refl
each_has_rule repeated_attribute = refl
each_has_rule (missing_message id) = refl
each_has_rule (missing_attribute id a) = refl
each_has_rule (missing_value id) = refl
each_has_rule (missing_term id) = refl
each_has_rule (missing_term_attribute id a) = refl
each_has_rule (missing_function id) = refl
each_has_rule (not_a_function id) = refl
each_has_rule (cycle next) = refl
each_has_rule (too_many_placeables count limit) = refl
each_has_rule (may_open_too_many count limit) = refl
each_has_rule (leads_to place) = refl
each_has_rule (not_given v term) = refl
each_has_rule (unused_argument v term) = refl
each_has_rule no_number = refl
each_has_rule (no_category key) = refl
each_has_rule (never_comes key) = refl
each_has_rule (repeated_variant key) = refl
each_has_rule value_not_translated = refl
each_has_rule value_not_in_reference = refl
each_has_rule not_translated = refl
each_has_rule not_in_reference = refl
each_has_rule (unknown_variable v) = refl
each_has_rule (variable_left_out v) = refl
each_has_rule (term_left_out term) = refl
each_has_rule (function_left_out id) = refl

pub unread_has_rule : UnreadHasRule
unread_has_rule = refl
