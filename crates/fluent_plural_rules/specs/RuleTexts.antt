-- What the reading of two rule texts answers.
use Rattle.std.specs.Prelude.{◌≡◌, ℕ, [], ◌++◌, codes, Option, Some, None, Result, Ok, Err, IsOk}
use Rattle.std.specs.Fmt.{decimal}
use Rattle.fluent_text.specs.Parser.{Text}
use Rattle.fluent_intl.specs.declared.operands.PluralOperands.{PluralOperands}
use Rattle.fluent_intl.specs.declared.plurals.PluralCategory.{PluralCategory}
use Rattle.fluent_intl.specs.declared.plurals.PluralRuleType.{PluralRuleType}
use Rattle.fluent_intl.specs.declared.plurals.PluralRuleType.TheVariants.{CARDINAL, ORDINAL}
use Rattle.fluent_plural_rules.specs.declared.rule_texts.fault.RuleFault.{RuleFault}
use Rattle.fluent_plural_rules.specs.declared.rule_texts.fault.RuleFault.TheVariants.{Syntax, Memory}
use Rattle.fluent_plural_rules.specs.Languages.{Texts}
use Rattle.fluent_plural_rules.specs.RuleTree.{Rules, rules_for}
use Rattle.fluent_plural_rules.specs.RuleGrammar.{rules}
use Rattle.fluent_plural_rules.specs.RuleMeaning.{category_by}

-- the first text outside the grammar, of which the cardinal one is read first, and where its first rule that can't be read begins
abbrev pub IsFault : Text → Text → PluralRuleType → ℕ → Type 0
IsFault cardinal ordinal CARDINAL at = rules cardinal ≡ Err at
IsFault cardinal ordinal ORDINAL at = IsOk (rules cardinal) × (rules ordinal ≡ Err at)

-- the rules of both texts, where both are in the grammar; else the fault; unless memory ran out, which takes a text that is more than blanks
abbrev pub IsParse : Text → Text → Result Rules RuleFault → Type 0
IsParse cardinal ordinal (Ok texts) = (rules cardinal ≡ Ok texts.cardinal) × (rules ordinal ≡ Ok texts.ordinal)
IsParse cardinal ordinal (Err (Syntax kind at)) = IsFault cardinal ordinal kind at
IsParse cardinal ordinal (Err Memory) = ¬ ((rules cardinal ≡ Ok []) × (rules ordinal ≡ Ok []))

-- where there are texts, the rules are theirs
abbrev pub HasRules : Option Texts → Option Rules → Type 0
HasRules None None = Unit {0}
HasRules None (Some r) = ⊥
HasRules (Some texts) None = ⊥
HasRules (Some texts) (Some r) = IsParse texts.cardinal texts.ordinal (Ok r)

-- what a fault says
abbrev pub fault_text : RuleFault → Text
fault_text (Syntax CARDINAL at) = codes "unreadable cardinal rule at byte " ++ decimal at
fault_text (Syntax ORDINAL at) = codes "unreadable ordinal rule at byte " ++ decimal at
fault_text Memory = codes "out of memory"

-- the category of the operands under the rules of this kind
abbrev pub category_of : Rules → PluralRuleType → PluralOperands → PluralCategory
category_of texts kind = category_by (rules_for kind texts)
