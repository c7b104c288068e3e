use lib.Utf8.{encode}
use Rattle.std.proofs.Common.{refl}
use Rattle.std.specs.Fmt.{digits}
use Rattle.fluent_text.specs.Escapes as e
use Rattle.fluent_text.specs.Parser.{many_from, byte, run1}
use Rattle.fluent_ast.specs.Tree.{pattern_same, text_same}
use Rattle.fluent_intl.specs.Decimal.{decimal_text, significant_places}
use Rattle.fluent_intl.specs.Operands.{operands_of}
use Rattle.fluent_semantics.specs.Walk.{elements}
use Rattle.fluent_semantics.specs.Meaning.{ran}
use Rattle.fluent_semantics.proofs.examples.texts_and_values.Goals as goal

pub returns-clause-variables : goal.returns-clause-variables
unfolding elements ran digits pattern_same text_same decimal_text significant_places operands_of e.hex_digit e.hex_number e.numbered e.escape e.part many_from byte run1 encode
returns-clause-variables c = record { text_alone = refl; there = refl; missing = refl; missing_in_order = refl; one_element = refl; too_many_of_them = refl; number_in_text = refl; number_with_zeros = refl; number_with_sign = refl }

pub returns-clause-settings : goal.returns-clause-settings
unfolding elements ran digits pattern_same text_same decimal_text significant_places operands_of e.hex_digit e.hex_number e.numbered e.escape e.part many_from byte run1 encode
returns-clause-settings c = record { not_isolated = refl; transformed = refl; past_literals = refl; whole_text = refl; value_and_whole_text = refl; without_formatter = refl; only_written = refl; value_written = refl; number_written = refl; number_formatted = refl; nothing_written = refl; nothing_formatted = refl; text_not_asked = refl; literal_not_asked = refl; number_asked = refl; word_asked = refl; custom_asked = refl; none_asked = refl; error_asked = refl; nested_not_asked = refl; answer_asked = refl; answer_of_error_not_asked = refl; no_transform_again = refl; no_formatter_again = refl; error_shown = refl; none_shown = refl; number_and_message = refl }

pub returns-clause-escapes : goal.returns-clause-escapes
unfolding elements ran digits pattern_same text_same decimal_text significant_places operands_of e.hex_digit e.hex_number e.numbered e.escape e.part many_from byte run1 encode
returns-clause-escapes c = record { all = refl; unknown_letter = refl; too_short = refl; at_the_end = refl; literal = refl; not_a_text = refl }

pub returns-clause-numbers : goal.returns-clause-numbers
unfolding elements ran digits pattern_same text_same decimal_text significant_places operands_of e.hex_digit e.hex_number e.numbered e.escape e.part many_from byte run1 encode
returns-clause-numbers c = record { plain = refl; plus_and_point = refl; fraction = refl; minus_zero = refl; most = refl; more_than_most = refl; point_alone = refl; exponent = refl; word = refl; space = refl; empty = refl }

pub returns-clause-values : goal.returns-clause-values
unfolding elements ran digits pattern_same text_same decimal_text significant_places operands_of e.hex_digit e.hex_number e.numbered e.escape e.part many_from byte run1 encode
returns-clause-values c = record { number = refl; not_a_number = refl; too_long = refl; word_and_one = refl; two_and_two = refl; two_and_three = refl; word_and_hundred = refl; number_and_word = refl; custom_matches_nothing = refl; none_matches_nothing = refl; error_matches_nothing = refl; categories = refl; none = refl; error = refl; equal_texts = refl; longer_text = refl; equal_numbers = refl; other_number = refl; text_and_number = refl; word_and_number = refl; equal_custom = refl; other_custom = refl; custom_text = refl; text_of_none = refl; text_of_error = refl; other_options = refl; below_zero_is_zero = refl }

pub returns-clause-selects : goal.returns-clause-selects
unfolding elements ran digits pattern_same text_same decimal_text significant_places operands_of e.hex_digit e.hex_number e.numbered e.escape e.part many_from byte run1 encode
returns-clause-selects c = record { first = refl; fifth = refl; twelfth = refl; twenty_second = refl; no_digits = refl; most_digits = refl; one_with_a_zero = refl; no_number = refl; without_default = refl; first_default = refl; written_order = refl }
