-- How an answer of the code stands to what the grammar of plural rules gives.
use Rattle.std.specs.Prelude.{◌≡◌, ◌≢◌, ℕ, ◌*◌, ◌%◌, ◌^◌, Bool, List, [], ◌∷◌, ◌++◌, map, Option, Some, None, Result, Ok, Err, Vec}
use Rattle.std.specs.Option.{option_map}
use Rattle.std.specs.Borrow.{Bor}
use Rattle.std.specs.declared.alloc.Global.{Global}
use Rattle.std.specs.Int.NonZero.{non_zero_u64_get}
use Rattle.std.specs.declared.num.NonZeroU64.{NonZeroU64}
use Rattle.fluent_text.specs.Parser as parser
use Rattle.fluent_intl.specs.declared.plurals.PluralRuleType.{PluralRuleType}
use Rattle.fluent_plural_rules.specs.declared.rule_texts.fault.RuleFault.{RuleFault}
use Rattle.fluent_plural_rules.specs.declared.rule_texts.fault.RuleFault.TheVariants as fault
use Rattle.fluent_plural_rules.specs.declared.rule_texts.lexical.Class.{Class}
use Rattle.fluent_plural_rules.specs.declared.rule_texts.lexical.Class.TheVariants.{Blank, Letter, Digit, Line}
use Rattle.fluent_plural_rules.specs.declared.rule_texts.stop.Stop.{Stop}
use Rattle.fluent_plural_rules.specs.declared.rule_texts.stop.Stop.TheVariants.{Absent, Memory}
use Rattle.fluent_plural_rules.specs.declared.rule_texts.tree.Relation.{Relation as CodeRelation}
use Rattle.fluent_plural_rules.specs.declared.rule_texts.tree.Rule.{Rule as CodeRule}
use Rattle.fluent_plural_rules.specs.declared.rule_texts.RuleList.{RuleList}
use Rattle.fluent_plural_rules.specs.declared.rule_texts.RuleList.TheVariants.{Read, Known}
use Rattle.fluent_plural_rules.specs.Inside.Known as known
use Rattle.fluent_plural_rules.specs.RuleTree.{Relation, relation_of, Condition, Rule, rule_of}
use Rattle.fluent_plural_rules.specs.RuleGrammar.{is_blank, is_letter, is_of_line, keyword}
use Rattle.fluent_text.specs.Lexical.{is_digit}

-- the sets of bytes in which the code finds runs
abbrev pub class_test : Class → ℕ → ℕ → Bool
class_test Blank = is_blank
class_test Letter = is_letter
class_test Digit = is_digit
class_test Line = is_of_line

abbrev pub text_view : Bor (List ℕ) → List ℕ
text_view t = t.now

-- ---- what the code keeps, by its content

abbrev pub all : {A B : Type 0} → (A → B) → Vec A Global → List B
all view v = map view v.items

abbrev pub number_view : NonZeroU64 → ℕ
number_view = non_zero_u64_get

abbrev pub relation_view : CodeRelation → Relation
relation_view r = relation_of r.operand (option_map number_view r.divisor) r.equal r.ranges.items

abbrev pub group_view : Vec CodeRelation Global → List Relation
group_view = all relation_view

abbrev pub condition_view : Vec (Vec CodeRelation Global) Global → Condition
condition_view = all group_view

abbrev pub rule_view : CodeRule → Rule
rule_view r = rule_of r.category (option_map condition_view r.condition)

-- rules that were read, or that are known
abbrev pub rules_in : RuleList → List Rule
rules_in (Read v) = all rule_view v
rules_in (Known span) = known.rules_view span

-- ---- answers

-- the whole number that a value in units of 10^-18 is, if it is one
abbrev pub IsWhole : ℕ → Option ℕ → Type 0
IsWhole value None = value % 10 ^ 18 ≢ 0
IsWhole value (Some x) = value ≡ x * 10 ^ 18

-- the result is what the grammar gives, unless memory ran out
abbrev pub Gives : {A B : Type 0} → (A → B) → Result (A × Bor (List ℕ)) Stop → parser.Read B → Type 0
Gives view (Ok p) r = r ≡ Some (view p.0, p.1.now)
Gives view (Err Absent) r = r ≡ None
Gives view (Err Memory) r = Unit {0}

abbrev pub listed : Option Rule → List Rule
listed None = []
listed (Some r) = r ∷ []

-- an allocation fails only where a keyword stands
abbrev pub AsksAtKeyword : Stop → List ℕ → Type 0
AsksAtKeyword Absent s = Unit {0}
AsksAtKeyword Memory s = keyword s ≢ None

-- a line is read that has no rule
abbrev pub IsRuleless : parser.Read (Option Rule) → Type 0
IsRuleless r = (rest : List ℕ) × (r ≡ Some (None, rest))

-- an allocation fails only where a line is more than blanks
abbrev pub AsksForRule : Stop → parser.Read (Option Rule) → Type 0
AsksForRule Absent r = Unit {0}
AsksForRule Memory r = ¬ IsRuleless r

-- the rule of a line was added, if the line has one
abbrev pub AddsLine : List Rule → List Rule → Result (Unit {0}) Stop → parser.Read (Option Rule) → Type 0
AddsLine old new (Ok done) r = (p : Option Rule × List ℕ) × (r ≡ Some p) × (new ≡ old ++ listed p.0)
AddsLine old new (Err Absent) r = r ≡ None
AddsLine old new (Err Memory) r = ¬ IsRuleless r

-- the rules of a text, or where the first that can't be read begins, unless memory ran out, which takes a text that is more than blanks
abbrev pub GivesRules : PluralRuleType → Result (Vec CodeRule Global) RuleFault → Result (List Rule) ℕ → Type 0
GivesRules kind (Ok found) r = r ≡ Ok (all rule_view found)
GivesRules kind (Err (fault.Syntax k at)) r = (k ≡ kind) × (r ≡ Err at)
GivesRules kind (Err fault.Memory) r = r ≢ Ok []
