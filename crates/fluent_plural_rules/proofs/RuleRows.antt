-- Worked plural rules: which texts are in the grammar, where the first rule begins that can't be read, and the categories that rules give.
use Rattle.std.proofs.Common.{◌≡◌, ℕ, ◌*◌, ◌^◌, [], ◌∷◌, Some, None, true, false, refl}
use Rattle.std.specs.Prelude.{codes, pos, Ok, Err, List, Option}
use Rattle.fluent_text.specs.Parser as p
use Rattle.fluent_intl.specs.declared.plurals.PluralCategory.{PluralCategory}
use Rattle.fluent_intl.specs.declared.plurals.PluralCategory.TheVariants.{ZERO, ONE, TWO, FEW, MANY, OTHER}
use Rattle.fluent_plural_rules.specs.declared.rule_texts.tree.Operand.{Operand}
use Rattle.fluent_plural_rules.specs.declared.rule_texts.tree.Operand.TheVariants.{N, I, F, T, V, W, C, E}
use Rattle.fluent_intl.specs.Decimal.{significant_places}
use Rattle.fluent_intl.specs.Operands.{operands_of}
use Rattle.fluent_plural_rules.specs.RuleTree.{Relation, relation_of, range_of, Rule, rule_of}
use Rattle.fluent_plural_rules.specs.RuleGrammar as g
use Rattle.fluent_plural_rules.specs.RuleMeaning.{category_by}

-- an operand in one range, or out of it
abbrev equals : Operand → ℕ → ℕ → Relation
equals x a b = relation_of x None true (range_of a b ∷ [])

abbrev differs : Operand → ℕ → ℕ → Relation
differs x a b = relation_of x None false (range_of a b ∷ [])

-- the same of its remainder
abbrev leaves : Operand → ℕ → ℕ → ℕ → Relation
leaves x m a b = relation_of x (Some m) true (range_of a b ∷ [])

abbrev leaves_not : Operand → ℕ → ℕ → ℕ → Relation
leaves_not x m a b = relation_of x (Some m) false (range_of a b ∷ [])

-- the rules of a text with four lines
abbrev four : List Rule
four =
    rule_of ONE (Some ((equals I 1 1 ∷ equals V 0 0 ∷ []) ∷ []))
    ∷ rule_of FEW (Some ((equals V 0 0 ∷ leaves I 10 2 4 ∷ leaves_not I 100 12 14 ∷ []) ∷ []))
    ∷ rule_of MANY (Some (
    (equals V 0 0 ∷ differs I 1 1 ∷ leaves I 10 0 1 ∷ [])
    ∷ (equals V 0 0 ∷ leaves I 10 5 9 ∷ [])
    ∷ (equals V 0 0 ∷ leaves I 100 12 14 ∷ [])
    ∷ []))
    ∷ rule_of OTHER None
    ∷ []

pub row_four : g.rules (codes "one: i = 1 and v = 0 @integer 1\nfew: v = 0 and i % 10 = 2..4 and i % 100 != 12..14\nmany: v = 0 and i != 1 and i % 10 = 0..1 or v = 0 and i % 10 = 5..9 or v = 0 and i % 100 = 12..14\nother: @decimal 0.0") ≡ Ok four
unfolding p.many_from p.byte p.run1 g.symbol g.word g.digits g.named g.value g.range_end g.range g.next_range g.range_list g.operand g.divisor g.unequal g.comparison g.relation g.and_relation g.and_group g.or_group g.condition g.keyword g.samples g.rule g.line g.rules_from g.rules
row_four = refl

-- a number, in tenths, and a minimum of fraction digits
abbrev category : List Rule → ℕ → Option ℕ → PluralCategory
category rules tenths minimum = category_by rules (operands_of (pos (tenths * 10 ^ 17)) minimum)

-- 1, 22, 12, 5, 21, 1.5, and 1 shown as 1.0
pub row_four_categories :
    (category four 10 None ≡ ONE)
    × (category four 220 None ≡ FEW)
    × (category four 120 None ≡ MANY)
    × (category four 50 None ≡ MANY)
    × (category four 210 None ≡ MANY)
    × (category four 15 None ≡ OTHER)
    × (category four 10 (Some 1) ≡ OTHER)
unfolding operands_of significant_places
row_four_categories = (refl, refl, refl, refl, refl, refl, refl)

-- ranges among values, and a fraction in none of them
abbrev listed : List Rule
listed = rule_of ONE (Some ((relation_of N None true (range_of 1 1 ∷ range_of 3 5 ∷ []) ∷ []) ∷ [])) ∷ rule_of OTHER None ∷ []

pub row_listed : g.rules (codes "one: n = 1,3..5; other:") ≡ Ok listed
unfolding p.many_from p.byte p.run1 g.symbol g.word g.digits g.named g.value g.range_end g.range g.next_range g.range_list g.operand g.divisor g.unequal g.comparison g.relation g.and_relation g.and_group g.or_group g.condition g.keyword g.samples g.rule g.line g.rules_from g.rules
row_listed = refl

-- 4, 3.5, 5, 6, and 1 shown as 1.0
pub row_listed_categories :
    (category listed 40 None ≡ ONE)
    × (category listed 35 None ≡ OTHER)
    × (category listed 50 None ≡ ONE)
    × (category listed 60 None ≡ OTHER)
    × (category listed 10 (Some 1) ≡ ONE)
unfolding operands_of significant_places
row_listed_categories = (refl, refl, refl, refl, refl)

-- every operand, all parts close to one another or far apart, and both ends of a line
pub row_parts : g.rules (codes "\r\t zero:n%10!=1,2..3or f=0 and t != 00018446744073709551615\r\n;two : w = 1 .. 2 , 3 or c=0and e=1@; many:v=5..4") ≡ Ok (
    rule_of ZERO (Some (
    (relation_of N (Some 10) false (range_of 1 1 ∷ range_of 2 3 ∷ []) ∷ [])
    ∷ (equals F 0 0 ∷ differs T 18446744073709551615 18446744073709551615 ∷ [])
    ∷ []))
    ∷ rule_of TWO (Some ((relation_of W None true (range_of 1 2 ∷ range_of 3 3 ∷ []) ∷ []) ∷ (equals C 0 0 ∷ equals E 1 1 ∷ []) ∷ []))
    ∷ rule_of MANY (Some ((equals V 5 4 ∷ []) ∷ []))
    ∷ [])
unfolding p.many_from p.byte p.run1 g.symbol g.word g.digits g.named g.value g.range_end g.range g.next_range g.range_list g.operand g.divisor g.unequal g.comparison g.relation g.and_relation g.and_group g.or_group g.condition g.keyword g.samples g.rule g.line g.rules_from g.rules
row_parts = refl

-- a text without rules
pub row_empty : (g.rules [] ≡ Ok []) × (g.rules (codes " ;\n;\t") ≡ Ok [])
unfolding p.many_from p.byte p.run1 g.symbol g.word g.digits g.named g.value g.range_end g.range g.next_range g.range_list g.operand g.divisor g.unequal g.comparison g.relation g.and_relation g.and_group g.or_group g.condition g.keyword g.samples g.rule g.line g.rules_from g.rules
row_empty = (refl, refl)

-- words and signs that are none, and parts that lack
pub row_refused :
    (g.rules (codes "one: i is 1") ≡ Err 0)
    × (g.rules (codes "one: n % 0 = 1") ≡ Err 0)
    × (g.rules (codes " ;two: n %") ≡ Err 2)
    × (g.rules (codes "one: n = 18446744073709551616") ≡ Err 0)
    × (g.rules (codes "one:") ≡ Err 0)
    × (g.rules (codes "one") ≡ Err 0)
    × (g.rules (codes "One: n = 1") ≡ Err 0)
    × (g.rules (codes "ones: n = 1") ≡ Err 0)
    × (g.rules (codes "one: n = 1..") ≡ Err 0)
    × (g.rules (codes "one: n = 1. .2") ≡ Err 0)
    × (g.rules (codes "one: n ! = 1") ≡ Err 0)
    × (g.rules (codes "one: n = 1,") ≡ Err 0)
    × (g.rules (codes "one: n = 1 orn = 2") ≡ Err 0)
    × (g.rules (codes "one: n = 1 2") ≡ Err 0)
    × (g.rules (codes "one: n = 1 and") ≡ Err 0)
    × (g.rules (codes "one: n = 1 two: n = 2") ≡ Err 0)
unfolding p.many_from p.byte p.run1 g.symbol g.word g.digits g.named g.value g.range_end g.range g.next_range g.range_list g.operand g.divisor g.unequal g.comparison g.relation g.and_relation g.and_group g.or_group g.condition g.keyword g.samples g.rule g.line g.rules_from g.rules
row_refused = (refl, refl, refl, refl, refl, refl, refl, refl, refl, refl, refl, refl, refl, refl, refl, refl)

-- the first of the rules that can't be read, after its blanks
pub row_place :
    (g.rules (codes "other:\n  one: n\ntwo") ≡ Err 9)
    × (g.rules (codes "other:@ a ; \tone n = 1; two") ≡ Err 13)
unfolding p.many_from p.byte p.run1 g.symbol g.word g.digits g.named g.value g.range_end g.range g.next_range g.range_list g.operand g.divisor g.unequal g.comparison g.relation g.and_relation g.and_group g.or_group g.condition g.keyword g.samples g.rule g.line g.rules_from g.rules
row_place = (refl, refl)

-- `and` binds tighter than `or`; an empty range holds nothing; `!=` holds of a fraction; the first of two rules that hold
abbrev tight : List Rule
tight = rule_of ONE (Some ((equals N 1 1 ∷ []) ∷ (equals N 2 2 ∷ equals V 1 1 ∷ []) ∷ [])) ∷ rule_of FEW (Some ((equals N 5 4 ∷ []) ∷ [])) ∷ rule_of MANY (Some ((differs N 1 1 ∷ leaves_not N 10 2 2 ∷ []) ∷ [])) ∷ rule_of TWO (Some ((equals N 0 100 ∷ []) ∷ [])) ∷ []

pub row_tight :
    (category tight 10 None ≡ ONE)
    × (category tight 20 None ≡ TWO)
    × (category tight 20 (Some 1) ≡ ONE)
    × (category tight 50 None ≡ MANY)
    × (category tight 15 None ≡ MANY)
    × (category tight 125 None ≡ MANY)
    × (category tight 120 None ≡ TWO)
    × (category tight 1020 None ≡ OTHER)
unfolding operands_of significant_places
row_tight = (refl, refl, refl, refl, refl, refl, refl, refl)

-- 0.50: n is a half, i 0, v 2, w 1, f 50, t 5, and c and e are 0
abbrev parts : List Rule
parts =
    rule_of TWO (Some ((equals I 0 0 ∷ equals V 2 2 ∷ equals W 1 1 ∷ equals F 50 50 ∷ equals T 5 5 ∷ equals C 0 0 ∷ equals E 0 0 ∷ differs N 0 1 ∷ []) ∷ []))
    ∷ []

pub row_operands : (category parts 5 (Some 2) ≡ TWO) × (category parts 5 None ≡ OTHER)
unfolding operands_of significant_places
row_operands = (refl, refl)
