-- The turns of a reader, beside a loop that counts up.
use Rattle.std.proofs.Common.{◌≡◌, ℕ, suc, ◌-◌, ◌<◌, Option, Some, None, Ok, Err, ap, ◌∙◌, arith}
use Rattle.fluent_text.specs.Parser.{Text}
use Rattle.fluent_reasons.specs.declared.expected.Expected.{Expected}
use Rattle.fluent_reasons.specs.Stopping.{Reader, turns}

pub more : {A : Type 0} (turn : A → Reader (Option A)) (k j : ℕ) (a b : A) (s r : Text)
    → k ≡ suc j → turn a s ≡ Ok (Some b, r) → turns turn k a s ≡ turns turn j b r
unfolding turns
more turn k j a b s r k1 e = ap (λ n. turns turn n a s) k1 ∙ rw e

pub last : {A : Type 0} (turn : A → Reader (Option A)) (k : ℕ) (a : A) (s r : Text)
    → 0 < k → turn a s ≡ Ok (None, r) → turns turn k a s ≡ Ok (a, r)
unfolding turns
last turn k a s r room e =
    let k1 : k ≡ suc (k - 1) = omega arith in
    ap (λ n. turns turn n a s) k1 ∙ rw e

pub stopped : {A : Type 0} (turn : A → Reader (Option A)) (k : ℕ) (a : A) (s : Text) (e : Text × Expected)
    → 0 < k → turn a s ≡ Err e → turns turn k a s ≡ Err e
unfolding turns
stopped turn k a s e room h =
    let k1 : k ≡ suc (k - 1) = omega arith in
    ap (λ n. turns turn n a s) k1 ∙ rw h

pub done : {A : Type 0} (turn : A → Reader (Option A)) (k : ℕ) (a : A) (s : Text)
    → k ≡ 0 → turns turn k a s ≡ Ok (a, s)
unfolding turns
done turn k a s e = ap (λ n. turns turn n a s) e

pub ruleset turns_of = (last, stopped, done)
