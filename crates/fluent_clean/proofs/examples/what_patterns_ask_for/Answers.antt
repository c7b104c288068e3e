use Rattle.std.proofs.Common.{refl}
use Rattle.fluent_clean.specs.Clean.{placeables_deep}
use Rattle.fluent_clean.proofs.RowProofs.{cleanness, asked}
use Rattle.fluent_clean.proofs.examples.what_patterns_ask_for.Goals as goal

pub returns-clause-needs : goal.returns-clause-needs
returns-clause-needs c = record { in_order = refl; all_variants = refl; text = refl }

pub returns-clause-cleanness : goal.returns-clause-cleanness
returns-clause-cleanness c = cleanness

pub returns-clause-asked : goal.returns-clause-asked
returns-clause-asked c = asked

pub returns-clause-opened : goal.returns-clause-opened
unfolding placeables_deep
returns-clause-opened c = record { text = refl; variable = refl; message = refl; attribute = refl; term = refl; arguments = refl; largest = refl; in_order = refl }
