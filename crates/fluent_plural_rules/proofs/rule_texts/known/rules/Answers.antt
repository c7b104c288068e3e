use Rattle.fluent_plural_rules.specs.Inside.Known.{rules}
use Rattle.fluent_plural_rules.proofs.rule_texts.known.rules.Goals as goal

pub returns : goal.returns
unfolding rules
returns c = c.part.ensures
