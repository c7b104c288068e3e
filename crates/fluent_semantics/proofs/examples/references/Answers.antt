use lib.Utf8.{encode}
use Rattle.std.proofs.Common.{refl}
use Rattle.std.specs.Fmt.{digits}
use Rattle.fluent_text.specs.Escapes as e
use Rattle.fluent_text.specs.Parser.{many_from, byte, run1}
use Rattle.fluent_ast.specs.Tree.{pattern_same, text_same}
use Rattle.fluent_intl.specs.Decimal.{decimal_text, significant_places}
use Rattle.fluent_intl.specs.Operands.{operands_of}
use Rattle.fluent_semantics.specs.Walk.{elements}
use Rattle.fluent_semantics.specs.Meaning.{ran}
use Rattle.fluent_semantics.proofs.examples.references.Goals as goal

pub returns-clause-cycles : goal.returns-clause-cycles
unfolding elements ran digits pattern_same text_same decimal_text significant_places operands_of e.hex_digit e.hex_number e.numbered e.escape e.part many_from byte run1 encode
returns-clause-cycles c = record { itself = refl; same_content = refl; added_again = refl; by_hand = refl; below_the_first = refl; below_the_second = refl; variant_not_on_the_path = refl; default_not_on_the_path = refl; other_content = refl }

pub returns-clause-terms : goal.returns-clause-terms
unfolding elements ran digits pattern_same text_same decimal_text significant_places operands_of e.hex_digit e.hex_number e.numbered e.escape e.part many_from byte run1 encode
returns-clause-terms c = record { outer_stands_again = refl; missing = refl; below_a_message = refl; twice = refl; positional = refl; last_of_a_name = refl }

pub returns-clause-lost : goal.returns-clause-lost
unfolding elements ran digits pattern_same text_same decimal_text significant_places operands_of e.hex_digit e.hex_number e.numbered e.escape e.part many_from byte run1 encode
returns-clause-lost c = record { without_value = refl; attribute = refl; no_attribute = refl; function = refl; term = refl; message_is_no_term = refl; attribute_of_no_message = refl; attribute_of_no_term = refl; no_reference = refl; no_error = refl }

pub returns-clause-functions : goal.returns-clause-functions
unfolding elements ran digits pattern_same text_same decimal_text significant_places operands_of e.hex_digit e.hex_number e.numbered e.escape e.part many_from byte run1 encode
returns-clause-functions c = record { none = refl; error = refl; length = refl; argument = refl; no_argument = refl; selects_text = refl; selects_number = refl; selects_custom = refl; selects_none = refl; selects_error = refl; unknown_selects = refl; missing_argument = refl }

pub returns-clause-adding : goal.returns-clause-adding
unfolding elements ran digits pattern_same text_same decimal_text significant_places operands_of e.hex_digit e.hex_number e.numbered e.escape e.part many_from byte run1 encode
returns-clause-adding c = record { taken = refl; first_stands = refl; term_wins = refl; builtins_twice = refl; builtins_stay = refl; message_taken = refl; message_stands = refl; greeting = refl; in_order = refl; first_of_three = refl; no_message = refl; a_term = refl; no_value = refl; first_attribute = refl; over_a_function = refl; its_message = refl; function_later = refl; message_not_yet = refl; message_later = refl; message_overridden = refl; no_longer = refl; function_taken = refl; function_dropped = refl; function_added = refl; function_answers_nothing = refl; overriding_answers_nothing = refl; junk_passed_over = refl; junk_answers_nothing = refl; nothing_named = refl; no_function = refl }

pub returns-clause-errors : goal.returns-clause-errors
unfolding elements ran digits pattern_same text_same decimal_text significant_places operands_of e.hex_digit e.hex_number e.numbered e.escape e.part many_from byte run1 encode
returns-clause-errors c = record { function = refl; message = refl; message_attribute = refl; term = refl; term_attribute = refl; variable = refl; no_value = refl; missing_default = refl; cyclic = refl; too_many = refl; parser = refl; overriding = refl }

pub returns-clause-premises : goal.returns-clause-premises
returns-clause-premises c = record {
  resource_adds = tt;
  function_adds = tt;
  builtins_add = tt;
  overriding_is_another = λ h. h;
  setting_is_another = λ h. h;
  string_literal = tt;
  number_literal = tt;
  variable_is_none = λ h. h;
  message_is_none = λ h. h;
  term_is_none = λ h. h;
  function_is_none = λ h. h;
  in_braces_is_none = λ h. h;
  no_call_is_closed = tt;
  empty_call_is_closed = tt;
  named_literals_are_closed = (tt, (tt, tt));
  positional_literal_is_open = λ h. h;
  first_named_variable_is_open = λ h. h.0;
  last_named_variable_is_open = λ h. h.1.0;
}
