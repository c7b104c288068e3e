use Rattle.std.proofs.Common.{◌≡◌, length}
use Rattle.fluent_intl.specs.LanguageTags.{shortened}
use Rattle.fluent_plural_rules.specs.LanguageTable.{cldr_plurals}
use Rattle.fluent_plural_rules.specs.Languages.{first_rules, rules_of}
use Rattle.fluent_plural_rules.proofs.cldr.known_rules.Given as goal

abbrev pub invariant-loop-known : goal.invariant-loop-known
invariant-loop-known l = first_rules cldr_plurals (shortened l.asked) ≡ rules_of cldr_plurals l.tag

abbrev pub decreases-loop-known : goal.decreases-loop-known
decreases-loop-known l = length l.asked
