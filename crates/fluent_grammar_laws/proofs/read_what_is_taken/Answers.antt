use Rattle.fluent_grammar_laws.proofs.ReadLaws.{select_tree, pattern_tree}
use Rattle.fluent_grammar_laws.proofs.read_what_is_taken.Goals as goal

pub returns-clause-select : goal.returns-clause-select
returns-clause-select c = select_tree

pub returns-clause-pattern : goal.returns-clause-pattern
returns-clause-pattern c = pattern_tree
