use Rattle.fluent_plural_rules.specs.Inside.Known.{relations}
use Rattle.fluent_plural_rules.proofs.rule_texts.known.relations.Goals as goal

pub returns : goal.returns
unfolding relations
returns c = c.part.ensures
