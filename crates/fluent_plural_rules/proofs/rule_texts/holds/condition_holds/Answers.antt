use Rattle.std.proofs.Common.{◌∙◌, rules, tests}
use Rattle.std.proofs.lemmas.Iterator.{YieldsList-from_slice}
use Rattle.std.proofs.lemmas.Iterator.Search.{any_from_yields_List}
use Rattle.fluent_plural_rules.specs.RuleMeaning.{group_holds}
use Rattle.fluent_plural_rules.specs.Inside.RuleReading.{group_view}
use Rattle.fluent_plural_rules.proofs.RuleValues.{any_seen}
use Rattle.fluent_plural_rules.proofs.rule_texts.holds.condition_holds.Goals as goal

pub returns : goal.returns
returns c =
    let o = c.args.operands.now in
    any_from_yields_List (λ g. group_holds o (group_view g)) _ _ c.any.result c.any.ensures.ran (YieldsList-from_slice c.args.groups.now cc) (λ x b q k. search (rules, tests))
    ∙ any_seen (group_holds o) group_view c.args.groups.now
