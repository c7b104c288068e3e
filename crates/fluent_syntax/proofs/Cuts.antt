-- Texts without their indent.
use Rattle.std.proofs.Common.{◌≡◌, ℕ, zero, suc, ◌+◌, ◌-◌, ◌<◌, ◌≤◌, min, List, [], ◌∷◌, ◌++◌, length, get_or, drop, IsUtf8, refl, ap, ◌∙◌, subst, arith}
use Rattle.std.specs.Prelude.{replicate}
use Rattle.std.proofs.lemmas.Str.{IsCharBoundary-start, IsCharBoundary-after_ascii}
use Rattle.std.specs.Str.{IsCharBoundary}
use Rattle.std.proofs.lemmas.List.{drop-append-le}
use Rattle.std.proofs.Math.ListN.{get_or-append}

-- without m of n spaces
pub drop_spaces : (s : List ℕ) (n m : ℕ) → n ≤ length s → ((k : ℕ) → k < n → get_or s k 0 ≡ 32) → m ≤ n → drop m s ≡ replicate (n - m) 32 ++ drop n s
drop_spaces s zero zero w h l = refl
drop_spaces s zero (suc m) w h l = absurd (omega arith)
drop_spaces [] (suc n) m w h l = absurd (omega arith)
drop_spaces (b ∷ s) (suc n) zero w h l =
    let e : suc n - 0 ≡ suc (n - 0) = omega arith in
    rw (h 0 (omega arith), e) (ap (λ t. 32 ∷ t) (drop_spaces s n 0 (omega arith) (λ k i. h (suc k) (omega arith)) (omega arith)))
drop_spaces (b ∷ s) (suc n) (suc m) w h l =
    let e : suc n - suc m ≡ n - m = omega arith in
    rw e (drop_spaces s n m (omega arith) (λ k i. h (suc k) (omega arith)) (omega arith))

-- a place after spaces
pub boundary-spaces : (s : List ℕ) (n m : ℕ) → IsUtf8 s → n ≤ length s → ((k : ℕ) → k < n → get_or s k 0 ≡ 32) → m ≤ n → IsCharBoundary s m
boundary-spaces s n zero u w h l = IsCharBoundary-start s u
boundary-spaces s n (suc m) u w h l =
    let at : get_or s m 0 ≡ 32 = h m (omega arith) in
    let e : m + 1 ≡ suc m = omega arith in
    subst (IsCharBoundary s) e (IsCharBoundary-after_ascii s m u (omega arith) (omega arith))

pub cut_is : (whole : List ℕ) (common n m : ℕ) → n ≤ length whole → ((k : ℕ) → k < n → get_or whole k 0 ≡ 32) → m ≡ min common n → drop m whole ≡ replicate (n - common) 32 ++ drop n whole
cut_is whole common n m w h e =
    let same : n - m ≡ n - common = omega arith in
    rw (← same) (drop_spaces whole n m w h (omega arith))

-- the same with one more byte
pub cut_fed_is : (whole fed : List ℕ) (common n m : ℕ) → n ≤ length whole → ((k : ℕ) → k < n → get_or whole k 0 ≡ 32) → m ≡ min common n → fed ≡ whole ++ 10 ∷ []
    → drop m fed ≡ replicate (n - common) 32 ++ drop n whole ++ 10 ∷ []
cut_fed_is whole fed common n m w h e f =
    let l : m ≤ length whole = omega arith in
    ap (drop m) f ∙ (drop-append-le m whole (10 ∷ []) l ∙ ap (λ x. x ++ 10 ∷ []) (cut_is whole common n m w h e))

-- the spaces of a text are the spaces of the text with its line feed
pub spaces_fed : (whole fed : List ℕ) (n : ℕ) → n ≤ length whole → ((k : ℕ) → k < n → get_or whole k 0 ≡ 32) → fed ≡ whole ++ 10 ∷ [] → (k : ℕ) → k < n → get_or fed k 0 ≡ 32
spaces_fed whole fed n w h f k i = ap (λ x. get_or x k 0) f ∙ (get_or-append whole (10 ∷ []) 0 k (omega arith) ∙ h k i)
