-- The remainder of a count of 10^-18 by a whole number.
use Rattle.std.specs.Prelude.{◌≡◌, ℕ, Bool, true, false, ◌+◌, ◌*◌, ◌/◌, ◌%◌, ◌^◌, ◌<◌, ◌==◌, ◌&&◌}
use Rattle.std.specs.Bool.{Decides}
use Rattle.std.proofs.Common.{arith, sym, refl, ◌∙◌}
use Rattle.std.proofs.Math.Arith.{mod-mul}
use Rattle.std.proofs.lemmas.Bool.Decides.{Decides-eqb, same_from_decides}

-- a whole part and a fraction are a whole number where the fraction is 0
parts : (q f r : ℕ) → f < 10 ^ 18 → q * 10 ^ 18 + f ≡ r * 10 ^ 18 → (f ≡ 0) × (q ≡ r)
parts q f r small e = (omega arith, omega arith)

both : {P Q : Type 0} (a b : Bool) → Decides a P → Decides b Q → Decides (a && b) (P × Q)
both true b p q = (λ e. (p.0 refl, q.0 e), λ h. q.1 h.1)
both false b p q = (λ e. absurd (cc), λ h. absurd (let f = p.1 h.0 in cc))

pub leaves_parts : (n m r : ℕ) → r < m → ((n % 10 ^ 18 == 0) && (n / 10 ^ 18 % m == r)) ≡ (n % (m * 10 ^ 18) == r * 10 ^ 18)
leaves_parts n m r lt =
    let small : n % 10 ^ 18 < 10 ^ 18 = omega arith in
    let split : n % (m * 10 ^ 18) ≡ n / 10 ^ 18 % m * 10 ^ 18 + n % 10 ^ 18 = mod-mul n (omega arith) (omega arith) in
    let one = both (n % 10 ^ 18 == 0) (n / 10 ^ 18 % m == r) (Decides-eqb (n % 10 ^ 18) 0) (Decides-eqb (n / 10 ^ 18 % m) r) in
    let two = Decides-eqb (n % (m * 10 ^ 18)) (r * 10 ^ 18) in
    same_from_decides _ _ one (
      λ e. parts (n / 10 ^ 18 % m) (n % 10 ^ 18) r small (sym split ∙ two.0 e),
      λ h. two.1 (split ∙ omega (arith, h.0, h.1)),
    )
