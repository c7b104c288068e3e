use Rattle.std.proofs.Common.{◌≡◌, length}
use Rattle.fluent_intl.specs.LanguageTags.{shortened}
use Rattle.fluent_plural_rules.specs.Languages.{first_rules, rules_of}
use Rattle.fluent_plural_rules.proofs.languages.rules_for.Given as goal

abbrev pub invariant-loop-rules : goal.invariant-loop-rules
invariant-loop-rules l = first_rules l.table (shortened l.asked) ≡ rules_of l.table l.tag

abbrev pub decreases-loop-rules : goal.decreases-loop-rules
decreases-loop-rules l = length l.asked
