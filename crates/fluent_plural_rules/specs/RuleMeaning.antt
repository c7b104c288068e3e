-- What plural rules say of a number's operands (Unicode TR35, Part 3, Plural rules syntax).
use Rattle.std.specs.Prelude.{ℕ, ◌*◌, ◌/◌, ◌%◌, ◌^◌, Bool, true, not, ◌&&◌, ◌==◌, nat_le, if◌then◌else◌, List, [], ◌∷◌, Option, Some, None, unsigned_abs}
use Rattle.std.specs.List.{list_any, list_all}
use Rattle.fluent_intl.specs.declared.operands.PluralOperands.{PluralOperands}
use Rattle.fluent_intl.specs.declared.plurals.PluralCategory.{PluralCategory}
use Rattle.fluent_intl.specs.declared.plurals.PluralCategory.TheVariants.{OTHER}
use Rattle.fluent_plural_rules.specs.declared.rule_texts.tree.Operand.{Operand}
use Rattle.fluent_plural_rules.specs.declared.rule_texts.tree.Operand.TheVariants.{N, I, F, T, V, W, C, E}
use Rattle.fluent_plural_rules.specs.declared.rule_texts.tree.Range.{Range}
use Rattle.fluent_plural_rules.specs.RuleTree.{Relation, Condition, Rule}

-- the value of an operand, which counts 10^-18 as n does
abbrev pub units : Operand → PluralOperands → ℕ
units N o = unsigned_abs o.n
units I o = o.i * 10 ^ 18
units F o = o.f * 10 ^ 18
units T o = o.t * 10 ^ 18
units V o = o.v * 10 ^ 18
units W o = o.w * 10 ^ 18
units C o = 0
units E o = 0

-- its remainder by a whole number, where there is one
abbrev pub remainder : Option ℕ → ℕ → ℕ
remainder None x = x
remainder (Some divisor) x = x % (divisor * 10 ^ 18)

-- a whole number lies in the range, its ends included
abbrev pub is_within : ℕ → Range → Bool
is_within x range = nat_le range.first x && nat_le x range.last

-- a value is whole and lies in one of the ranges
abbrev pub is_in : ℕ → List Range → Bool
is_in value ranges = (value % 10 ^ 18 == 0) && list_any (is_within (value / 10 ^ 18)) ranges

-- what a relation looks at is in its ranges
abbrev pub is_found : PluralOperands → Relation → Bool
is_found o r = is_in (remainder r.divisor (units r.operand o)) r.ranges

-- `=` holds where it is in them, and `!=` where it isn't
abbrev pub relation_holds : PluralOperands → Relation → Bool
relation_holds o r = if r.equal then is_found o r else not (is_found o r)

-- all the relations of a group hold
abbrev pub group_holds : PluralOperands → List Relation → Bool
group_holds o relations = list_all (relation_holds o) relations

-- one of the groups holds
abbrev pub condition_holds : PluralOperands → Condition → Bool
condition_holds o groups = list_any (group_holds o) groups

abbrev pub rule_holds : PluralOperands → Option Condition → Bool
rule_holds o None = true
rule_holds o (Some groups) = condition_holds o groups

-- the category of the first rule that holds, otherwise OTHER
abbrev pub category_by : List Rule → PluralOperands → PluralCategory
category_by [] o = OTHER
category_by (r ∷ rules) o = if rule_holds o r.condition then r.category else category_by rules o
