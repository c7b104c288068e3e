use Rattle.fluent_plural_rules.proofs.RuleRelations.{selects_the_first}
use Rattle.fluent_plural_rules.proofs.rule_texts.laws.rules_select_the_first_that_holds.Goals as goal

pub returns : goal.returns
returns c = selects_the_first
