use Rattle.std.proofs.Common.{◌≡◌, Ok, Err, Result, sym, subst}
use Rattle.std.specs.Result.{IfErr, IsErrAnd}
use Rattle.fluent_text.specs.Parser.{Text}
use Rattle.fluent_plural_rules.specs.declared.rule_texts.stop.Stop.{Stop}
use Rattle.fluent_plural_rules.specs.RuleGrammar as spec
use Rattle.fluent_plural_rules.specs.Inside.RuleReading.{AsksAtKeyword, AsksForRule}
use Rattle.fluent_plural_rules.proofs.RuleLines.{at_keyword}
use Rattle.fluent_plural_rules.proofs.rule_texts.line.line.Goals as goal

passed_on : {A : Type 0} (s : Text) (stop : Stop) (r : Result A Stop) → IsErrAnd r (λ x. x ≡ stop) → AsksAtKeyword stop s → IfErr r (λ x. AsksForRule x (spec.line s))
passed_on s stop (Ok x) h k = tt
passed_on s stop (Err x) h k = subst (λ y. AsksForRule y (spec.line s)) (sym h) (at_keyword s stop k)

pub returns-in_err-rule-clause-memory : goal.returns-in_err-rule-clause-memory
returns-in_err-rule-clause-memory c = passed_on c.args.s.now c.in_err-rule.field-0.0 c.from_residual.result c.from_residual.ensures.1 c.in_err-rule.ensures.memory
