use Rattle.std.proofs.Common.{◌-◌, ◌+◌, ◌∙◌, sym, length, arith, rules}
use Rattle.fluent_text.specs.Parser.{push}
use Rattle.fluent_plural_rules.specs.RuleGrammar.{next_range}
use Rattle.fluent_text.specs.Facts.Turns.{next, empty}
use Rattle.fluent_plural_rules.proofs.rule_texts.relation.more_ranges.Goals as goal

pub listed-preserved : goal.listed-preserved
listed-preserved c =
    let n = length c.args.s.now in (
      search rules,
      next push next_range (n - c.listed._turn) (n - (c.listed._turn + 1)) c.listed.found.items c.listed.rest.now c.in-Some.next c.in-Some.after.now c.push.new.self.items _ (omega arith) (sym c.in-Some.ensures) (omega arith) c.in_ok-push.ensures.items c.listed.invariant.1,
    )

pub returns-then-after-rest : goal.returns-then-after-rest
returns-then-after-rest c =
    c.listed.invariant.1 ∙ empty push next_range (length c.args.s.now - c.listed._turn) c.listed.found.items c.listed.rest.now c.in-Some.next c.in-Some.after.now (omega arith) (sym c.in-Some.ensures) (omega arith)
