-- The rule texts of English, and what it is that a source of categories agrees with them.
use Rattle.std.specs.Prelude.{◌≡◌, Ok, codes}
use Rattle.fluent_text.specs.Parser.{Text}
use Rattle.fluent_intl.specs.declared.operands.PluralOperands.{PluralOperands}
use Rattle.fluent_intl.specs.declared.plurals.PluralCategory.{PluralCategory}
use Rattle.fluent_intl.specs.declared.plurals.PluralRuleType.{PluralRuleType}
use Rattle.fluent_plural_rules.specs.RuleTree.{Rules}
use Rattle.fluent_plural_rules.specs.RuleTexts.{IsParse, category_of}

abbrev pub english_cardinal : Text
english_cardinal = codes "one: i = 1 and v = 0; other:"

abbrev pub english_ordinal : Text
english_ordinal =
    codes "one: n % 10 = 1 and n % 100 != 11; two: n % 10 = 2 and n % 100 != 12; few: n % 10 = 3 and n % 100 != 13; other:"

-- two texts are in the grammar, and their rules give each number's operands the category that the source does, and all other operands too
abbrev pub AgreesWith : Text → Text → (PluralRuleType → PluralOperands → PluralCategory) → Type 0
AgreesWith cardinal ordinal category =
    (texts : Rules) × IsParse cardinal ordinal (Ok texts) × ((kind : PluralRuleType) (o : PluralOperands) → category_of texts kind o ≡ category kind o)
