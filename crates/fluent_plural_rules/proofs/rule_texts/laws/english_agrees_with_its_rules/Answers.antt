use Rattle.fluent_plural_rules.proofs.EnglishRules.{english_agrees}
use Rattle.fluent_plural_rules.proofs.rule_texts.laws.english_agrees_with_its_rules.Goals as goal

pub returns : goal.returns
returns c = english_agrees
