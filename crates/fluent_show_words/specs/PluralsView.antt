-- The plural rules of a run, by content.
use Rattle.std.specs.Prelude.{◌≡◌, ◌≢◌, Option, Some, None}
use Rattle.fluent_intl.specs.Plurals.{english}
use Rattle.fluent_plural_rules.specs.RuleTexts.{category_of}
use Rattle.fluent_plural_rules.specs.declared.rule_texts.RuleTexts.{RuleTexts}
use Rattle.fluent_plural_rules.specs.declared.rule_texts.fault.RuleFault.{RuleFault}
use Rattle.fluent_plural_rules.specs.declared.rule_texts.fault.RuleFault.TheVariants.{Memory}
use Rattle.fluent_semantics.specs.Value as m
use Rattle.fluent_show_words.specs.Words.{plurals_asked}
use Rattle.fluent_show_words.specs.WordsView.{options_view}
use Rattle.fluent_show_words.specs.declared.options.Options.{Options}
use Rattle.fluent_show_words.specs.declared.plurals.Plurals.{Plurals}
use Rattle.fluent_show_words.specs.declared.plurals.Plurals.TheVariants.{English, Rules}

abbrev pub plurals_view : Plurals → m.Plurals
plurals_view English = english
plurals_view (Rules texts) = category_of texts.now

-- those that were read, or English
abbrev pub read_view : Option RuleTexts → m.Plurals
read_view None = english
read_view (Some texts) = category_of texts

-- they are those that the options ask for
abbrev pub AreAsked : Options → Option RuleTexts → Type 0
AreAsked options read = plurals_asked (options_view options) ≡ Some (read_view read)

-- any fault but one of memory: those can't be read
abbrev pub TellsBadRule : Options → RuleFault → Type 0
TellsBadRule options fault = fault ≢ Memory → plurals_asked (options_view options) ≡ None
