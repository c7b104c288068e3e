-- The tests of plural rules decide what the rules say.
use Rattle.std.specs.Prelude.{◌≡◌, ℕ, ◌*◌, ◌/◌, ◌%◌, ◌^◌, ◌≤◌, ◌↔◌, Bool, true, false, not, ◌&&◌, ◌==◌, if◌then◌else◌, List, [], ◌∷◌, Option, Some, None}
use Rattle.std.specs.Bool.{Decides}
use Rattle.std.specs.List.{All, Any, list_any, list_all}
use Rattle.std.proofs.Common.{arith, sym, refl, ap, ◌∙◌, inl, inr}
use Rattle.std.proofs.lemmas.Bool.{cases_Bool}
use Rattle.std.proofs.lemmas.Bool.Decides.{nat_tests}
use Rattle.std.proofs.lemmas.List.Folds.{Any-from_list_any, list_any-from_Any}
use Rattle.std.proofs.lemmas.List.Sums.{AllPass-from_list_all, list_all-from_AllPass}
use Rattle.fluent_intl.specs.declared.operands.PluralOperands.{PluralOperands}
use Rattle.fluent_intl.specs.declared.plurals.PluralCategory.{PluralCategory}
use Rattle.fluent_plural_rules.specs.declared.rule_texts.tree.Range.{Range}
use Rattle.fluent_plural_rules.specs.RuleTree.{Relation, Condition, Rule}
use Rattle.fluent_plural_rules.specs.RuleMeaning.{units, remainder, is_within, is_in, relation_holds, group_holds, rule_holds, category_by}
use Rattle.fluent_plural_rules.specs.RuleRelations.{IsIn, Tells, RelationHolds, RuleHolds, IsCategory, SelectsTheFirst}
use Rattle.fluent_plural_rules.proofs.RuleValues.{in_whole}

-- a test of each element decides whether some element, or each, is so
any_decides : {X : Type 0} (p : X → Bool) (P : X → Type 0) → ((x : X) → Decides (p x) (P x)) → (xs : List X) → Decides (list_any p xs) (Any P xs)
any_decides p P d xs = (
  λ e. let found = Any-from_list_any p xs e in (found.0, found.1, found.2, found.3, (d found.1).0 found.4),
  λ h. list_any-from_Any p xs (h.0, h.1, h.2, h.3, (d h.1).1 h.4),
)

all_decides : {X : Type 0} (p : X → Bool) (P : X → Type 0) → ((x : X) → Decides (p x) (P x)) → (xs : List X) → Decides (list_all p xs) (All P xs)
all_decides p P d xs = (
  λ e k x lt. (d _).0 (AllPass-from_list_all p xs e k x lt),
  λ h. list_all-from_AllPass p xs (λ k x lt. (d _).1 (h k x lt)),
)

within_decides : (x : ℕ) (range : Range) → Decides (is_within x range) ((range.first ≤ x) × (x ≤ range.last))
within_decides x range = (λ e. (grind (arith, nat_tests), grind (arith, nat_tests)), λ h. grind (arith, nat_tests))

first_true : (a b : Bool) → (a && b) ≡ true → a ≡ true
first_true true b e = refl
first_true false b e = e

second_true : (a b : Bool) → (a && b) ≡ true → b ≡ true
second_true true b e = e
second_true false b e = absurd (cc)

in_decides : (value : ℕ) (ranges : List Range) → Decides (is_in value ranges) (IsIn value ranges)
in_decides value ranges =
    let decides = λ (x : ℕ). any_decides (is_within x) (λ range. (range.first ≤ x) × (x ≤ range.last)) (within_decides x) ranges in (
      λ e.
          let none : (value % 10 ^ 18 == 0) ≡ true = first_true (value % 10 ^ 18 == 0) (list_any (is_within (value / 10 ^ 18)) ranges) e in
          let whole : value ≡ value / 10 ^ 18 * 10 ^ 18 = grind (arith, nat_tests) in
          (value / 10 ^ 18, whole, (decides (value / 10 ^ 18)).0 (second_true (value % 10 ^ 18 == 0) _ e)),
      λ h. ap (λ v. is_in v ranges) h.1 ∙ in_whole h.0 ranges ∙ (decides h.0).1 h.2,
    )

says_decides : (equal b : Bool) (P : Type 0) → Decides b P → Decides (if equal then b else not b) (Tells equal P)
says_decides true b P d = d
says_decides false true P d = (λ e. absurd (cc), λ h. absurd (h (d.0 refl)))
says_decides false false P d = (λ e p. let t = d.1 p in absurd (cc), λ h. refl)

relation_decides : (o : PluralOperands) (r : Relation) → Decides (relation_holds o r) (RelationHolds o r)
relation_decides o r = says_decides r.equal _ _ (in_decides (remainder r.divisor (units r.operand o)) r.ranges)

rule_decides : (o : PluralOperands) (c : Option Condition) → Decides (rule_holds o c) (RuleHolds o c)
rule_decides o None = (λ e. tt, λ h. refl)
rule_decides o (Some groups) =
    any_decides (group_holds o) (All (RelationHolds o)) (all_decides (relation_holds o) (RelationHolds o) (relation_decides o)) groups

category_decides : (rules : List Rule) (o : PluralOperands) (c : PluralCategory) → IsCategory rules o c ↔ (c ≡ category_by rules o)
category_decides [] o c = (λ h. h, λ h. h)
category_decides (r ∷ rules) o c =
    let d = rule_decides o r.condition in
    elim (cases_Bool (rule_holds o r.condition)) [
      | inl holds ↦
          let chosen : category_by (r ∷ rules) o ≡ r.category = ap (λ b. if b then r.category else category_by rules o) holds in (
            λ h. elim h [ inl this ↦ this.1 ∙ sym chosen | inr other ↦ absurd (other.0 (d.0 holds)) ],
            λ e. inl (d.0 holds, e ∙ chosen),
          )
      | inr fails ↦
          let later : category_by (r ∷ rules) o ≡ category_by rules o = ap (λ b. if b then r.category else category_by rules o) fails in
          let rest = category_decides rules o c in (
            λ h. elim h [ inl this ↦ absurd (let t = d.1 this.0 in cc) | inr other ↦ rest.0 other.1 ∙ sym later ],
            λ e. inr (λ holds. let t = d.1 holds in cc, rest.1 (e ∙ later)),
          )
    ]

pub selects_the_first : SelectsTheFirst
selects_the_first = category_decides
