use Rattle.std.proofs.Common.{sym}
use Rattle.fluent_plural_rules.proofs.RuleDigits.{too_large}
use Rattle.fluent_plural_rules.proofs.rule_texts.lexical.value.Goals as goal

pub returns-in_err-value : goal.returns-in_err-value
returns-in_err-value c =
    let large = too_large c.args.s.now c.in_ok-digits.digits.now c.in_ok-digits.rest.now (sym c.in_ok-digits.ensures) (rw c.as_bytes.ensures.value at c.in_err-value.ensures) in
    rw c.from_residual-in_err-value.ensures (sym large)
