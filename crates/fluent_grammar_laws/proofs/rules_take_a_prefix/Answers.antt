use Rattle.fluent_grammar_laws.proofs.RulePrefixes.{select_prefix, pattern_prefix}
use Rattle.fluent_grammar_laws.proofs.rules_take_a_prefix.Goals as goal

pub returns-clause-select : goal.returns-clause-select
returns-clause-select g depth = select_prefix depth g.args.source.now

pub returns-clause-pattern : goal.returns-clause-pattern
returns-clause-pattern g depth = pattern_prefix depth g.args.source.now
