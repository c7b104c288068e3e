use Rattle.std.proofs.Common.{◌-◌, ◌≡◌, length}
use denote.Shadow.{shadow}
use denote.Text.{Utf8}
use Rattle.fluent_text.specs.Parser.{many_from, push}
use Rattle.fluent_plural_rules.specs.RuleGrammar.{next_range}
use Rattle.fluent_plural_rules.proofs.rule_texts.relation.more_ranges.Given as goal

abbrev pub invariant-listed : goal.invariant-listed
invariant-listed l =
    shadow (Utf8 l.rest) × (many_from push next_range (length l.fn.s) l.fn.found.items l.fn.s ≡ many_from push next_range (l._turn-end - l._turn) l.found.items l.rest)
