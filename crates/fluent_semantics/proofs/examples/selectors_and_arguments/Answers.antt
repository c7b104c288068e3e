use lib.Utf8.{encode}
use Rattle.std.proofs.Common.{refl}
use Rattle.std.specs.Fmt.{digits}
use Rattle.fluent_text.specs.Escapes as e
use Rattle.fluent_text.specs.Parser.{many_from, byte, run1}
use Rattle.fluent_ast.specs.Tree.{pattern_same, text_same}
use Rattle.fluent_intl.specs.Decimal.{decimal_text, significant_places}
use Rattle.fluent_intl.specs.Operands.{operands_of}
use Rattle.fluent_semantics.specs.Walk.{elements}
use Rattle.fluent_semantics.specs.Meaning.{ran}
use Rattle.fluent_semantics.proofs.examples.selectors_and_arguments.Goals as goal

pub returns-clause-selectors : goal.returns-clause-selectors
unfolding elements ran digits pattern_same text_same decimal_text significant_places operands_of e.hex_digit e.hex_number e.numbered e.escape e.part many_from byte run1 encode
returns-clause-selectors c = record { number_key = refl; text_and_number_key = refl; number_and_name_key = refl; text_and_name_key = refl; one = refl; two = refl; word_and_number_key = refl; escaped = refl; attribute = refl; no_attribute = refl; message = refl; nested = refl; nested_number = refl; missing = refl; missing_in_a_term = refl; after_the_default = refl; second_default = refl; alone_in_a_variant = refl; two_by_default = refl; alone_by_default = refl }

pub returns-clause-handed : goal.returns-clause-handed
unfolding elements ran digits pattern_same text_same decimal_text significant_places operands_of e.hex_digit e.hex_number e.numbered e.escape e.part many_from byte run1 encode
returns-clause-handed c = record { escaped = refl; number = refl; number_is_no_text = refl; variable = refl; missing = refl; message = refl; attribute = refl; marks = refl; unknown = refl; without_value = refl; itself = refl; term = refl; term_with_arguments = refl; term_with_another = refl; missing_inside_a_term = refl; to_a_term = refl; nested = refl; nested_number_is_a_text = refl; nested_select = refl; function = refl; no_function = refl; in_order = refl; errors_in_order = refl; positional_first = refl; named_in_order = refl; last_of_a_name = refl; by_its_name = refl }

pub returns-clause-options : goal.returns-clause-options
unfolding elements ran digits pattern_same text_same decimal_text significant_places operands_of e.hex_digit e.hex_number e.numbered e.escape e.part many_from byte run1 encode
returns-clause-options c = record { ordinal = refl; style = refl; currency = refl; display = refl; no_grouping = refl; grouping = refl; whole_digits = refl; least_places = refl; least_places_cut = refl; most_places = refl; least_digits = refl; most_digits = refl; other_kinds = refl; other_names = refl; cut_toward_zero = refl; below_zero = refl; most = refl; kept = refl; first_alone = refl; text = refl; nothing = refl }
