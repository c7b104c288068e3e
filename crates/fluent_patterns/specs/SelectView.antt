-- What the code keeps on its way through selects, by its content.
use Rattle.std.specs.Prelude.{List, map}
use Rattle.indexmap.specs.IndexSet.{IndexSet}
use Rattle.fluent_patterns.specs.Selects as t
use Rattle.fluent_patterns.specs.Selects.{a_text, a_number}
use Rattle.fluent_patterns.specs.Found.{flaws_in}
use Rattle.fluent_patterns.specs.declared.sense.Sense as code
use Rattle.fluent_patterns.specs.declared.sense.Sense.TheVariants as sense
use Rattle.fluent_patterns.specs.declared.selects.Passed.{Passed}

abbrev pub sense_view : code.Sense → t.Sense
sense_view (sense.Text text) = a_text text.now
sense_view (sense.Number is_negative whole fraction places) = a_number is_negative whole fraction places

abbrev pub senses_view : {S : Type 0} → IndexSet code.Sense S → List t.Sense
senses_view senses = map sense_view senses.keys

abbrev pub passed_view : Passed → t.Passed
passed_view p = record { selects = p.selects; variants = p.variants; flaws = flaws_in p.flaws }
