use Rattle.std.proofs.Common.{refl}
use Rattle.fluent_ast.specs.Tree.{pattern_same, text_same}
use Rattle.fluent_semantics.specs.Walk.{elements}
use Rattle.fluent_semantics.specs.Meaning.{ran}
use Rattle.fluent_text.specs.Escapes as e
use Rattle.fluent_text.specs.Parser.{many_from, byte, run1}
use Rattle.fluent_fallback.proofs.examples.the_first_that_has_it_answers.Goals as goal

pub returns-clause-values : goal.returns-clause-values
unfolding elements ran pattern_same text_same e.hex_digit e.hex_number e.numbered e.escape e.part many_from byte run1
returns-clause-values c = record {
  first = refl;
  other_way_round = refl;
  second = refl;
  with_arguments = refl;
  without_value = refl;
  nowhere = refl;
  without_value_alone = refl;
  no_bundle = refl;
  no_id = refl;
  reference = refl;
  function = refl;
  own_limit = refl;
  other_limit = refl;
  own_transform = refl;
  own_formatter = refl;
  id_unchanged = refl;
}

pub returns-clause-attributes : goal.returns-clause-attributes
unfolding elements ran pattern_same text_same
returns-clause-attributes c = record { first = refl; second = refl; nowhere = refl; no_message = refl; no_name = refl }
