use Rattle.fluent_plural_rules.proofs.RuleValues.{whole_remainder}
use Rattle.fluent_plural_rules.proofs.rule_texts.holds.remainder.Goals as goal

pub returns-in-Some : goal.returns-in-Some
returns-in-Some c =
    rw (c.in-Some.is, c.get.ensures.value) (whole_remainder c.args.x c.in-Some.divisor.value c.in-Some.divisor.ok)
