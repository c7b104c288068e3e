-- A limit is set, or leaves the bundle.
use Rattle.std.proofs.Common.{◌≡◌, ◌↔◌, ◌&&◌, ℕ, Bool, true, false, IsTrue, ◌∙◌, ap, arith, nat_le, refl, if◌then◌else◌}
use Rattle.fluent_ast.specs.Tree.{Text}
use Rattle.fluent_semantics.specs.Bundle.{Bundle, after, set_placeable_limit}
use Rattle.fluent_c_handles.specs.Calls.Opening.{IsLimit, with_limit}
use Rattle.fluent_c_handles.specs.Inside.Limits.{Limits}

-- both bounds hold, or not both
allowed : (n : ℕ) (a b : Bool) → nat_le 1 n ≡ a → nat_le n 10000 ≡ b → IsLimit n → (a && b) ≡ true
allowed n true true p q h = refl
allowed n true false p q h = grind (arith, h.0, h.1)
allowed n false b p q h = grind (arith, h.0, h.1)

refused : (n : ℕ) (a b : Bool) → nat_le 1 n ≡ a → nat_le n 10000 ≡ b → ¬ (IsLimit n) → (a && b) ≡ false
refused n true true p q h = absurd (h (grind arith, grind arith))
refused n true false p q h = refl
refused n false b p q h = refl

pub limits : (n : ℕ) (b new : Bundle Text) (done : Bool) → new ≡ after (set_placeable_limit n) b → (IsTrue done ↔ IsLimit n) → Limits b n new done
limits n b new true e h =
    (e ∙ ap (λ t. if t then with_limit n b else b) (allowed n (nat_le 1 n) (nat_le n 10000) refl refl (h.0 refl)), h.0 refl)
limits n b new false e h =
    let above : ¬ (IsLimit n) = λ is. let never : false ≡ true = h.1 is in absurd cc in
    (e ∙ ap (λ t. if t then with_limit n b else b) (refused n (nat_le 1 n) (nat_le n 10000) refl refl above), above)
