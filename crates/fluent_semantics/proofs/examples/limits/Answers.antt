use lib.Utf8.{encode}
use Rattle.std.proofs.Common.{refl}
use Rattle.std.specs.Fmt.{digits}
use Rattle.fluent_text.specs.Escapes as e
use Rattle.fluent_text.specs.Parser.{many_from, byte, run1}
use Rattle.fluent_ast.specs.Tree.{pattern_same, text_same}
use Rattle.fluent_intl.specs.Decimal.{decimal_text, significant_places}
use Rattle.fluent_intl.specs.Operands.{operands_of}
use Rattle.fluent_semantics.specs.Walk.{elements}
use Rattle.fluent_semantics.specs.Meaning.{ran}
use Rattle.fluent_semantics.proofs.examples.limits.Goals as goal

pub returns-clause-hundred : goal.returns-clause-hundred
unfolding elements ran digits pattern_same text_same decimal_text significant_places operands_of e.hex_digit e.hex_number e.numbered e.escape e.part many_from byte run1 encode
returns-clause-hundred c = record { limit_reached_at_the_end = refl; not_limit_reached = refl; limit_reached_below = refl; within_below = refl; arguments_go_on = refl; nested_fallback = refl; selector = refl; term_arguments = refl; brackets = refl; calls = refl; laughs = refl; laughs_longer = refl }

pub returns-clause-others : goal.returns-clause-others
unfolding elements ran digits pattern_same text_same decimal_text significant_places operands_of e.hex_digit e.hex_number e.numbered e.escape e.part many_from byte run1 encode
returns-clause-others c = record { at_first = refl; none = refl; one = refl; most = refl; more = refl; more_at_first = refl; one_more = refl; one_alone = refl; all_laughs = refl; last_laugh = refl }
