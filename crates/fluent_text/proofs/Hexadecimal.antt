-- The digits of a number, one after the other.
use Rattle.std.proofs.Common.{◌≡◌, ℕ, zero, suc, ◌+◌, ◌-◌, ◌*◌, ◌^◌, ◌<◌, ◌≤◌, List, Some, None, ap, ◌∙◌, arith}
use Rattle.std.proofs.Math.Nat.{pow-le-pow_right}
use Rattle.std.proofs.lemmas.Grind.{pow_more}
use Rattle.fluent_text.specs.Escapes.{hex_digit, hex_number}

pub hex_more : (k j n : ℕ) (s : List ℕ) (d : ℕ) (r : List ℕ) → k ≡ suc j → hex_digit s ≡ Some (d, r) → hex_number k n s ≡ hex_number j (n * 16 + d) r
unfolding hex_number
hex_more k j n s d r k1 e = ap (λ m. hex_number m n s) k1 ∙ rw e

pub hex_none : (k n : ℕ) (s : List ℕ) → 0 < k → hex_digit s ≡ None → hex_number k n s ≡ None
unfolding hex_number
hex_none k n s room e = let k1 : k ≡ suc (k - 1) = omega arith in ap (λ m. hex_number m n s) k1 ∙ rw e

pub hex_done : (k n : ℕ) (s : List ℕ) → k ≡ 0 → hex_number k n s ≡ Some (n, s)
unfolding hex_number
hex_done k n s e = ap (λ m. hex_number m n s) e

pub ruleset hex_turns = (hex_more, hex_none, hex_done)

-- a number of k digits, with one more
pub one_digit_more : (k n d : ℕ) → n < 16 ^ k → d < 16 → n * 16 + d < 16 ^ (k + 1)
one_digit_more k n d h l = omega (arith, pow_more 16 k)

-- and it fits 32 bits
pub six_digits : (k n : ℕ) → k ≤ 6 → n < 16 ^ k → n < 2 ^ 24
six_digits k n h l =
    let some : zero < 16 = omega arith in
    let most : 16 ^ k ≤ 16 ^ 6 = pow-le-pow_right {n = 16} some h in
    omega arith
