use Rattle.std.proofs.Common.{◌≡◌, ◌-◌, ◌≤◌, length}
use denote.Shadow.{shadow}
use denote.Text.{Utf8}
use Rattle.fluent_plural_rules.specs.RuleGrammar.{lines, rules_from, rules}
use Rattle.fluent_plural_rules.specs.Inside.RuleReading.{all, rule_view}
use Rattle.fluent_plural_rules.proofs.RuleLines.{after}
use Rattle.fluent_plural_rules.proofs.rule_texts.lines.read_rules.Given as goal

abbrev pub invariant-lines : goal.invariant-lines
invariant-lines l = record {
  utf8 : shadow (Utf8 l.rest);
  within : length l.rest ≤ length l.fn.text;
  read : rules l.fn.text ≡ after (all rule_view l.found) (rules_from (length l.fn.text - length l.rest) (lines l.rest));
}

abbrev pub decreases-lines : goal.decreases-lines
decreases-lines l = length l.rest
