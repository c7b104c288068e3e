-- What plural rules say, as relations. `RuleMeaning` computes them.
use Rattle.std.specs.Prelude.{◌≡◌, ℕ, ◌*◌, ◌^◌, ◌≤◌, ◌⊎◌, ◌↔◌, Bool, true, false, List, [], ◌∷◌, Option, Some, None}
use Rattle.std.specs.List.{All, Any}
use Rattle.fluent_intl.specs.declared.operands.PluralOperands.{PluralOperands}
use Rattle.fluent_intl.specs.declared.plurals.PluralCategory.{PluralCategory}
use Rattle.fluent_intl.specs.declared.plurals.PluralCategory.TheVariants.{OTHER}
use Rattle.fluent_plural_rules.specs.declared.rule_texts.tree.Range.{Range}
use Rattle.fluent_plural_rules.specs.RuleTree.{Relation, Condition, Rule}
use Rattle.fluent_plural_rules.specs.RuleMeaning.{units, remainder, category_by}

-- a value, which counts 10^-18, is a whole number of one of the ranges, whose ends are in it
abbrev pub IsIn : ℕ → List Range → Type 0
IsIn value ranges =
    (x : ℕ) × (value ≡ x * 10 ^ 18) × Any (λ range. (range.first ≤ x) × (x ≤ range.last)) ranges

-- a fact, or that it is not so
abbrev pub Tells : Bool → Type 0 → Type 0
Tells true P = P
Tells false P = P → ⊥

-- `=` says that the operand or its remainder is in the ranges, `!=` that it is not
abbrev pub RelationHolds : PluralOperands → Relation → Type 0
RelationHolds o r = Tells r.equal (IsIn (remainder r.divisor (units r.operand o)) r.ranges)

-- one of the groups holds, each relation of it
abbrev pub ConditionHolds : PluralOperands → Condition → Type 0
ConditionHolds o groups = Any (All (RelationHolds o)) groups

-- a rule without a condition holds
abbrev pub RuleHolds : PluralOperands → Option Condition → Type 0
RuleHolds o None = Unit {0}
RuleHolds o (Some groups) = ConditionHolds o groups

-- the category of the first rule that holds, OTHER where none does
abbrev pub IsCategory : List Rule → PluralOperands → PluralCategory → Type 0
IsCategory [] o c = c ≡ OTHER
IsCategory (r ∷ rules) o c =
    (RuleHolds o r.condition × (c ≡ r.category)) ⊎ ((RuleHolds o r.condition → ⊥) × IsCategory rules o c)

-- what the computed category is: the one that the rules say
abbrev pub SelectsTheFirst : Type 0
SelectsTheFirst =
    (rules : List Rule) (o : PluralOperands) (c : PluralCategory) → IsCategory rules o c ↔ (c ≡ category_by rules o)
