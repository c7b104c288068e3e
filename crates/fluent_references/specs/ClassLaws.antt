-- Classes are the same where contents are.
use Rattle.std.specs.Prelude.{◌≡◌, ℕ, List, slice_get, Bool, true, false, Some, nat_eq, refl}
use Rattle.std.specs.Option.{unwrap_or}
use Rattle.std.proofs.Common.{ap, sym, ◌∙◌}
use Rattle.std.proofs.lemmas.Bool.{eq-eqb, eqb-true}
use Rattle.fluent_ast.specs.Tree.{Pattern, is_yes, pattern_same}
use Rattle.fluent_references.specs.Classes.{AreDistinct, HasClass}

not_true : (b : Bool) → (b ≡ true → ⊥) → b ≡ false
not_true true h = absurd (h refl)
not_true false h = refl

content_is : (p q : Pattern) → Some p ≡ Some q → p ≡ q
content_is p q h = ap (λ o. unwrap_or o p) h

-- in place of two contents their classes can be compared
pub same_class : (table : List Pattern) → AreDistinct table → (c d : ℕ) (p q : Pattern) → HasClass table c p → HasClass table d q → nat_eq c d ≡ is_yes (pattern_same p q)
same_class table distinct c d p q at_c at_d = by (pattern_same p q)
  where
    by : (same : Dec (p ≡ q)) → nat_eq c d ≡ is_yes same
    by (yes same) = eq-eqb c d (distinct c d q (at_c ∙ ap Some same) at_d)
    by (no other) = not_true (nat_eq c d) (λ e. other (content_is p q (sym at_c ∙ (ap (λ n. slice_get table n) (eqb-true c d e) ∙ at_d))))
