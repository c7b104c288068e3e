use Rattle.std.proofs.Common.{sym, ◌∙◌, rules, tests}
use Rattle.std.proofs.lemmas.Iterator.{YieldsList-from_slice}
use Rattle.std.proofs.lemmas.Iterator.Search.{all_from_yields_List}
use Rattle.std.proofs.lemmas.List.Folds.{list_all-map}
use Rattle.fluent_plural_rules.specs.RuleMeaning.{relation_holds}
use Rattle.fluent_plural_rules.specs.Inside.RuleReading.{relation_view}
use Rattle.fluent_plural_rules.proofs.rule_texts.holds.group_holds.Goals as goal

pub returns : goal.returns
returns c =
    let o = c.args.operands.now in
    all_from_yields_List (λ r. relation_holds o (relation_view r)) _ _ c.all.result c.all.ensures.ran (YieldsList-from_slice c.args.relations.now cc) (λ x b q k. search (rules, tests))
    ∙ sym (list_all-map (relation_holds o) relation_view c.args.relations.now)
