use Rattle.fluent_plural_rules.specs.Inside.Known.{ranges}
use Rattle.fluent_plural_rules.proofs.rule_texts.known.ranges.Goals as goal

pub returns : goal.returns
unfolding ranges
returns c = c.part.ensures
