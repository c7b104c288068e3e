use Rattle.std.proofs.Common.{refl}
use Rattle.fluent_patterns.proofs.examples.what_is_wrong_with_references.Goals as goal

pub returns-clause-missing : goal.returns-clause-missing
returns-clause-missing c = record { in_order = refl; no_default = refl; of_messages = refl; of_terms = refl; of_functions = refl; after_a_select = refl }

pub returns-clause-terms : goal.returns-clause-terms
returns-clause-terms c = record { outside_of_selectors = refl; functions = refl; each_once = refl; left = refl; of_references = refl }

pub returns-clause-numbers : goal.returns-clause-numbers
returns-clause-numbers c = record { numbered = refl; of_each_kind = refl; of_selects = refl }
