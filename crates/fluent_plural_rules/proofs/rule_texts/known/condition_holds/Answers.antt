use Rattle.std.proofs.Common.{◌∙◌, map, ap, rules, tests}
use Rattle.std.specs.List.{list_any}
use Rattle.std.proofs.lemmas.Iterator.{YieldsList-from_slice}
use Rattle.std.proofs.lemmas.Iterator.Search.{any_from_yields_List}
use Rattle.fluent_plural_rules.specs.RuleMeaning.{group_holds}
use Rattle.fluent_plural_rules.specs.Inside.Known.{group_view}
use Rattle.fluent_plural_rules.proofs.RuleValues.{any_seen}
use Rattle.fluent_plural_rules.proofs.rule_texts.known.condition_holds.Goals as goal

pub returns : goal.returns
returns c =
    let o = c.args.operands.now in
    any_from_yields_List (λ g. group_holds o (group_view g)) _ _ c.any.result c.any.ensures.ran (YieldsList-from_slice c.groups.result.now cc) (λ x b q k. search (rules, tests))
    ∙ any_seen (group_holds o) group_view c.groups.result.now ∙ ap (λ gs. list_any (group_holds o) (map group_view gs)) c.groups.ensures
