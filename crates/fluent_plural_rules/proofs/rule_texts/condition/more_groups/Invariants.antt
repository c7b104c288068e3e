use Rattle.std.proofs.Common.{◌-◌, ◌≡◌, length}
use denote.Shadow.{shadow}
use denote.Text.{Utf8}
use Rattle.fluent_text.specs.Parser.{many_from, push}
use Rattle.fluent_plural_rules.specs.RuleGrammar.{or_group}
use Rattle.fluent_plural_rules.specs.Inside.RuleReading.{condition_view}
use Rattle.fluent_plural_rules.proofs.rule_texts.condition.more_groups.Given as goal

abbrev pub invariant-groups : goal.invariant-groups
invariant-groups l =
    shadow (Utf8 l.rest) × (many_from push or_group (length l.fn.s) (condition_view l.fn.found) l.fn.s ≡ many_from push or_group (l._turn-end - l._turn) (condition_view l.found) l.rest)
