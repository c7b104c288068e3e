use lib.Utf8.{encode}
use Rattle.std.proofs.Common.{refl}
use Rattle.std.specs.Fmt.{digits}
use Rattle.fluent_text.specs.Escapes as e
use Rattle.fluent_text.specs.Parser.{many_from, byte, run1}
use Rattle.fluent_ast.specs.Tree.{pattern_same, text_same}
use Rattle.fluent_intl.specs.Decimal.{decimal_text, significant_places}
use Rattle.fluent_intl.specs.Operands.{operands_of}
use Rattle.fluent_semantics.specs.Walk.{elements}
use Rattle.fluent_semantics.specs.Meaning.{ran, substituted}
use Rattle.fluent_semantics.specs.Limit.{until}
use Rattle.fluent_semantics.specs.Work.{worked}
use Rattle.fluent_semantics.proofs.examples.work_and_scopes.Goals as goal

pub returns-clause-substituted : goal.returns-clause-substituted
unfolding elements ran digits pattern_same text_same decimal_text significant_places operands_of e.hex_digit e.hex_number e.numbered e.escape e.part many_from byte run1 encode substituted until worked
returns-clause-substituted c = record { opened = refl; marked = refl; unknown = refl; itself = refl; arguments = refl; in_order = refl; arguments_in_order = refl; each_stored_once = refl }

pub returns-clause-reaches_limit : goal.returns-clause-reaches_limit
unfolding elements ran digits pattern_same text_same decimal_text significant_places operands_of e.hex_digit e.hex_number e.numbered e.escape e.part many_from byte run1 encode substituted until worked
returns-clause-reaches_limit c = record { all_opened = refl; some_left = refl; below = refl; at_the_first_below = refl; at_once = refl; innermost_first = refl; error_before = refl; in_an_argument = refl; error_of_an_argument = refl }

pub returns-clause-counts : goal.returns-clause-counts
unfolding elements ran digits pattern_same text_same decimal_text significant_places operands_of e.hex_digit e.hex_number e.numbered e.escape e.part many_from byte run1 encode substituted until worked
returns-clause-counts c = record { not_limit_reached = refl; limit_reached_below = refl; limit_reached_at_once = refl; one_below_the_other = refl; one_after_the_other = refl; variant = refl; default_variant = refl; beside_the_run = refl; after_the_limit = refl }

pub returns-clause-sizes : goal.returns-clause-sizes
unfolding elements ran digits pattern_same text_same decimal_text significant_places operands_of e.hex_digit e.hex_number e.numbered e.escape e.part many_from byte run1 encode substituted until worked
returns-clause-sizes c = record { single = refl; call = refl; calls_in_a_call = refl; term = refl; in_brackets = refl; selector = refl; no_placeable = refl; in_the_first = refl; in_the_last = refl; in_a_variant = refl; in_the_default = refl; below_a_selector = refl; below_a_nested = refl; below_arguments = refl; below_named = refl; below_a_term = refl; at_least_one = refl; its_own = refl; of_a_message = refl; of_a_term = refl; of_an_attribute = refl; all_stored = refl }

pub returns-clause-scopes : goal.returns-clause-scopes
unfolding elements ran digits pattern_same text_same decimal_text significant_places operands_of e.hex_digit e.hex_number e.numbered e.escape e.part many_from byte run1 encode substituted until worked
returns-clause-scopes c = record { on_the_path = refl; not_on_the_path = refl; then_on_the_path = refl; below_the_path = refl; within = refl; limit_reached_there = refl; limit_reached_before = refl; under_itself = refl; under_another = refl; of_a_term = refl; missing_in_a_term = refl; arguments = refl; from_the_budget = refl; arguments_below_the_path = refl }
