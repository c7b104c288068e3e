use Rattle.fluent_grammar_laws.proofs.KnownEntries.{pattern_before}
use Rattle.fluent_grammar_laws.proofs.read_before_an_end.Goals as goal

pub returns-clause-pattern : goal.returns-clause-pattern
returns-clause-pattern g depth = pattern_before depth g.args.source.now
