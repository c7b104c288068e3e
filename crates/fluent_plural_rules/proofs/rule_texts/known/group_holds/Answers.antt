use Rattle.std.proofs.Common.{sym, map, ap, ◌∙◌, rules, tests}
use Rattle.std.specs.List.{list_all}
use Rattle.std.proofs.lemmas.Iterator.{YieldsList-from_slice}
use Rattle.std.proofs.lemmas.Iterator.Search.{all_from_yields_List}
use Rattle.std.proofs.lemmas.List.Folds.{list_all-map}
use Rattle.fluent_plural_rules.specs.RuleMeaning.{relation_holds}
use Rattle.fluent_plural_rules.specs.Inside.Known.{relation_view}
use Rattle.fluent_plural_rules.proofs.rule_texts.known.group_holds.Goals as goal

pub returns : goal.returns
returns c =
    let o = c.args.operands.now in
    all_from_yields_List (λ r. relation_holds o (relation_view r)) _ _ c.all.result c.all.ensures.ran (YieldsList-from_slice c.relations.result.now cc) (λ x b q k. search (rules, tests))
    ∙ sym (list_all-map (relation_holds o) relation_view c.relations.result.now) ∙ ap (λ rs. list_all (relation_holds o) (map relation_view rs)) c.relations.ensures
