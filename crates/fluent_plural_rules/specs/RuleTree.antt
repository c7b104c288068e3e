-- Plural rules, by their content.
use Rattle.std.specs.Prelude.{ℕ, Bool, List, Option}
use Rattle.fluent_intl.specs.declared.plurals.PluralCategory.{PluralCategory}
use Rattle.fluent_intl.specs.declared.plurals.PluralRuleType.{PluralRuleType}
use Rattle.fluent_intl.specs.declared.plurals.PluralRuleType.TheVariants.{CARDINAL, ORDINAL}
use Rattle.fluent_plural_rules.specs.declared.rule_texts.tree.Operand.{Operand}
use Rattle.fluent_plural_rules.specs.declared.rule_texts.tree.Range.{Range}

-- an operand or its remainder is in one of the ranges, or, where `equal` is false, it is not
pub record Relation : Type 0 where
  pub operand : Operand
  pub divisor : Option ℕ
  pub equal : Bool
  pub ranges : List Range

abbrev pub relation_of : Operand → Option ℕ → Bool → List Range → Relation
relation_of operand divisor equal ranges =
    record { operand = operand; divisor = divisor; equal = equal; ranges = ranges }

abbrev pub range_of : ℕ → ℕ → Range
range_of first last = record { first = first; last = last }

-- groups of relations; one group has to hold, and in it each relation
abbrev pub Condition : Type 0
Condition = List (List Relation)

-- a rule without a condition always holds
pub record Rule : Type 0 where
  pub category : PluralCategory
  pub condition : Option Condition

abbrev pub rule_of : PluralCategory → Option Condition → Rule
rule_of category condition = record { category = category; condition = condition }

-- the rules of two texts
pub record Rules : Type 0 where
  pub cardinal : List Rule
  pub ordinal : List Rule

abbrev pub rules_for : PluralRuleType → Rules → List Rule
rules_for CARDINAL rules = rules.cardinal
rules_for ORDINAL rules = rules.ordinal
