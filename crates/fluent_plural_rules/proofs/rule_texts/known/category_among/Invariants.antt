use Rattle.std.proofs.Common.{◌≡◌, map, drop}
use Rattle.fluent_plural_rules.specs.RuleMeaning.{category_by}
use Rattle.fluent_plural_rules.specs.Inside.Known.{rule_view}
use Rattle.fluent_plural_rules.proofs.rule_texts.known.category_among.Given as goal

abbrev pub invariant-loop-rule : goal.invariant-loop-rule
invariant-loop-rule l =
    category_by (map rule_view l.rules) l.operands ≡ category_by (map rule_view (drop l.rule-index l.rules)) l.operands
