-- What a decision of equality says.
use Rattle.std.proofs.Common.{◌≡◌, ◌↔◌, IsTrue, Bool, true, false, refl, sym, ◌∙◌, rules}
use Rattle.fluent_ast.specs.Tree.{is_yes}

of_yes : {P : Type 0} (r : Bool) (d : Dec P) → r ≡ is_yes d → IsTrue r ↔ P
of_yes true (yes p) e = (λ t. p, λ q. search rules)
of_yes true (no h) e = cc
of_yes false (yes p) e = cc
of_yes false (no h) e = (λ t. absurd (search rules), λ q. absurd (h q))

pub same_views : {A : Type 0} (d : Discrete A) (r : Bool) (x y u v : A) → r ≡ is_yes (d x y) → x ≡ u → y ≡ v → IsTrue r ↔ (u ≡ v)
same_views d r x y u v e p q =
    let h : IsTrue r ↔ (x ≡ y) = of_yes r (d x y) e in
    (λ t. sym p ∙ h.0 t ∙ q, λ w. h.1 (p ∙ w ∙ sym q))
