use Rattle.std.proofs.Common.{◌-◌, ◌+◌, ◌∙◌, length, arith, rules}
use Rattle.fluent_text.specs.Parser.{push}
use Rattle.fluent_plural_rules.specs.RuleGrammar.{or_group}
use Rattle.fluent_plural_rules.specs.Inside.RuleReading.{all, group_view}
use Rattle.fluent_text.specs.Facts.Turns.{pushed, empty}
use Rattle.fluent_plural_rules.proofs.rule_texts.condition.more_groups.Goals as goal

pub groups-preserved : goal.groups-preserved
groups-preserved c =
    let n = length c.args.s.now in (
      search rules,
      pushed group_view or_group (n - c.groups._turn) (n - (c.groups._turn + 1)) c.groups.found.items c.groups.rest.now c.in-Ok.next c.in-Ok.after.now c.push.new.self.items _ (omega arith) c.in-Ok.ensures (omega arith) c.in_ok-push-in-Ok.ensures.items c.groups.invariant.1,
    )

pub returns-then-after-rest : goal.returns-then-after-rest
returns-then-after-rest c =
    c.groups.invariant.1 ∙ empty push or_group (length c.args.s.now - c.groups._turn) (all group_view c.groups.found) c.groups.rest.now (group_view c.in-Ok.next) c.in-Ok.after.now (omega arith) c.in-Ok.ensures (omega arith)
