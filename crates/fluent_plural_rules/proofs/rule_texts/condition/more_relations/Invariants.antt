use Rattle.std.proofs.Common.{◌-◌, ◌≡◌, length}
use denote.Shadow.{shadow}
use denote.Text.{Utf8}
use Rattle.fluent_text.specs.Parser.{many_from, push}
use Rattle.fluent_plural_rules.specs.RuleGrammar.{and_relation}
use Rattle.fluent_plural_rules.specs.Inside.RuleReading.{group_view}
use Rattle.fluent_plural_rules.proofs.rule_texts.condition.more_relations.Given as goal

abbrev pub invariant-relations : goal.invariant-relations
invariant-relations l =
    shadow (Utf8 l.rest) × (many_from push and_relation (length l.fn.s) (group_view l.fn.found) l.fn.s ≡ many_from push and_relation (l._turn-end - l._turn) (group_view l.found) l.rest)
