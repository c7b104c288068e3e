-- The rules of English texts give the categories of English.
use Rattle.std.specs.Prelude.{◌≡◌, ℕ, ◌*◌, ◌%◌, ◌^◌, Bool, true, false, not, ◌&&◌, ◌||◌, ◌==◌, if◌then◌else◌, List, [], ◌∷◌, Some, None, Ok, unsigned_abs}
use Rattle.std.proofs.Common.{arith, refl, ap, ◌∙◌, inl, inr}
use Rattle.std.proofs.lemmas.Bool.{cases_Bool}
use Rattle.std.proofs.lemmas.Bool.Decides.{nat_tests}
use Rattle.fluent_text.specs.Parser as p
use Rattle.fluent_intl.specs.declared.operands.PluralOperands.{PluralOperands}
use Rattle.fluent_intl.specs.declared.plurals.PluralCategory.TheVariants.{ONE, TWO, FEW, OTHER}
use Rattle.fluent_intl.specs.declared.plurals.PluralRuleType.{PluralRuleType}
use Rattle.fluent_intl.specs.declared.plurals.PluralRuleType.TheVariants.{CARDINAL, ORDINAL}
use Rattle.fluent_plural_rules.specs.declared.rule_texts.tree.Operand.{Operand}
use Rattle.fluent_plural_rules.specs.declared.rule_texts.tree.Operand.TheVariants.{N, I, V}
use Rattle.fluent_plural_rules.specs.RuleTree.{Relation, relation_of, range_of, rule_of, Rules}
use Rattle.fluent_plural_rules.specs.RuleGrammar as g
use Rattle.fluent_plural_rules.specs.RuleMeaning.{is_in, relation_holds, condition_holds}
use Rattle.fluent_plural_rules.specs.RuleTexts.{category_of}
use Rattle.fluent_intl.specs.Plurals.{english, ends_in, leaves}
use Rattle.fluent_plural_rules.specs.EnglishRules.{english_cardinal, english_ordinal, AgreesWith}

-- one number
is_one : (u k : ℕ) → is_in u (range_of k k ∷ []) ≡ (u == k * 10 ^ 18)
is_one u k =
    elim (cases_Bool (u == k * 10 ^ 18)) [
      | inl same ↦ grind (arith, nat_tests)
      | inr other ↦ grind (arith, nat_tests)
    ]

-- a whole operand
is_whole : (x k : ℕ) → is_in (x * 10 ^ 18) (range_of k k ∷ []) ≡ (x == k)
is_whole x k = is_one (x * 10 ^ 18) k ∙ grind (arith, nat_tests)

abbrev equals : Operand → ℕ → Relation
equals x k = relation_of x None true (range_of k k ∷ [])

abbrev leaves_one : ℕ → ℕ → Relation
leaves_one m k = relation_of N (Some m) true (range_of k k ∷ [])

abbrev leaves_not : ℕ → ℕ → Relation
leaves_not m k = relation_of N (Some m) false (range_of k k ∷ [])

-- two relations that both hold
pair : (p q : Bool) → ((p && (q && true)) || false) ≡ (p && q)
pair true true = refl
pair true false = refl
pair false q = refl

two : (o : PluralOperands) (x y : Relation) (p q : Bool) → relation_holds o x ≡ p → relation_holds o y ≡ q → condition_holds o ((x ∷ y ∷ []) ∷ []) ≡ (p && q)
two o x y p q e h = pair (relation_holds o x) (relation_holds o y) ∙ ap (λ a. a && relation_holds o y) e ∙ ap (λ b. p && b) h

ends : (o : PluralOperands) (k : ℕ) (j : ℕ) → condition_holds o ((leaves_one 10 k ∷ leaves_not 100 j ∷ []) ∷ []) ≡ (leaves o 10 k && not (leaves o 100 j))
ends o k j = two o (leaves_one 10 k) (leaves_not 100 j) _ _ (is_one (unsigned_abs o.n % (10 * 10 ^ 18)) k) (ap not (is_one (unsigned_abs o.n % (100 * 10 ^ 18)) j))

abbrev ends_rule : ℕ → ℕ → List (List Relation)
ends_rule k j = (leaves_one 10 k ∷ leaves_not 100 j ∷ []) ∷ []

abbrev texts : Rules
texts = record {
  cardinal = rule_of ONE (Some ((equals I 1 ∷ equals V 0 ∷ []) ∷ [])) ∷ rule_of OTHER None ∷ [];
  ordinal = rule_of ONE (Some (ends_rule 1 11)) ∷ rule_of TWO (Some (ends_rule 2 12)) ∷ rule_of FEW (Some (ends_rule 3 13)) ∷ rule_of OTHER None ∷ [];
}

same : (kind : PluralRuleType) (o : PluralOperands) → category_of texts kind o ≡ english kind o
same CARDINAL o = ap (λ b. if b then ONE else OTHER) (two o (equals I 1) (equals V 0) _ _ (is_whole o.i 1) (is_whole o.v 0))
same ORDINAL o =
    ap (λ b. if b then ONE else (if condition_holds o (ends_rule 2 12) then TWO else (if condition_holds o (ends_rule 3 13) then FEW else OTHER))) (ends o 1 11)
    ∙ ap (λ b. if ends_in o 1 then ONE else (if b then TWO else (if condition_holds o (ends_rule 3 13) then FEW else OTHER))) (ends o 2 12)
    ∙ ap (λ b. if ends_in o 1 then ONE else (if ends_in o 2 then TWO else (if b then FEW else OTHER))) (ends o 3 13)

cardinal_is : g.rules english_cardinal ≡ Ok texts.cardinal
unfolding p.many_from p.byte p.run1 g.symbol g.word g.digits g.named g.value g.range_end g.range g.next_range g.range_list g.operand g.divisor g.unequal g.comparison g.relation g.and_relation g.and_group g.or_group g.condition g.keyword g.samples g.rule g.line g.rules_from g.rules
cardinal_is = refl

ordinal_is : g.rules english_ordinal ≡ Ok texts.ordinal
unfolding p.many_from p.byte p.run1 g.symbol g.word g.digits g.named g.value g.range_end g.range g.next_range g.range_list g.operand g.divisor g.unequal g.comparison g.relation g.and_relation g.and_group g.or_group g.condition g.keyword g.samples g.rule g.line g.rules_from g.rules
ordinal_is = refl

pub english_agrees : AgreesWith english_cardinal english_ordinal english
english_agrees = (texts, (cardinal_is, ordinal_is), same)
