use Rattle.fluent_plural_rules.specs.Inside.Known.{groups}
use Rattle.fluent_plural_rules.proofs.rule_texts.known.groups.Goals as goal

pub returns : goal.returns
unfolding groups
returns c = c.part.ensures
