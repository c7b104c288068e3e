use Rattle.std.proofs.Common.{◌-◌, ◌+◌, ◌∙◌, length, arith, rules}
use Rattle.fluent_text.specs.Parser.{push}
use Rattle.fluent_plural_rules.specs.RuleGrammar.{and_relation}
use Rattle.fluent_plural_rules.specs.Inside.RuleReading.{all, relation_view}
use Rattle.fluent_text.specs.Facts.Turns.{pushed, empty}
use Rattle.fluent_plural_rules.proofs.rule_texts.condition.more_relations.Goals as goal

pub relations-preserved : goal.relations-preserved
relations-preserved c =
    let n = length c.args.s.now in (
      search rules,
      pushed relation_view and_relation (n - c.relations._turn) (n - (c.relations._turn + 1)) c.relations.found.items c.relations.rest.now c.in-Ok.next c.in-Ok.after.now c.push.new.self.items _ (omega arith) c.in-Ok.ensures (omega arith) c.in_ok-push-in-Ok.ensures.items c.relations.invariant.1,
    )

pub returns-then-after-rest : goal.returns-then-after-rest
returns-then-after-rest c =
    c.relations.invariant.1 ∙ empty push and_relation (length c.args.s.now - c.relations._turn) (all relation_view c.relations.found) c.relations.rest.now (relation_view c.in-Ok.next) c.in-Ok.after.now (omega arith) c.in-Ok.ensures (omega arith)
