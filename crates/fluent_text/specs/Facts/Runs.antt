-- Runs of bytes, and where they end.
use Rattle.std.proofs.Common.{◌≡◌, ℕ, zero, suc, ◌+◌, ◌<◌, ◌≤◌, Bool, true, false, cond, List, [], ◌∷◌, length, get_or, drop, IsUtf8, refl, subst, inl, inr, arith, add-one, add-zero, get_or-drop}
use Rattle.std.proofs.lemmas.Bool.{cases_Bool, cases_lt}
use Rattle.std.proofs.lemmas.List.{drop_more, get_or_past}
use Rattle.std.proofs.lemmas.Str.{IsCharBoundary-start, IsCharBoundary-end, IsCharBoundary-before_ascii, IsCharBoundary-after_ascii}
use Rattle.std.specs.Str.{IsCharBoundary}
use Rattle.fluent_text.specs.Parser.{first, run_len}

pub run_len-le : (p : ℕ → ℕ → Bool) (s : List ℕ) → run_len p s ≤ length s
run_len-le p [] = omega arith
run_len-le p (c ∷ cs) =
    elim (cases_Bool (p c (first cs))) [
      | inl pass ↦ let more = run_len-le p cs in rw pass (omega arith)
      | inr stop ↦ rw stop (omega arith)
    ]

-- one turn, at an index
pub run_len-drop : (p : ℕ → ℕ → Bool) (s : List ℕ) (i : ℕ) → i < length s
    → run_len p (drop i s) ≡ cond (p (get_or s i 0) (get_or s (i + 1) 0)) (1 + run_len p (drop (i + 1) s)) 0
run_len-drop p s i h =
    let next : get_or (drop (i + 1) s) 0 0 ≡ get_or s (i + 1) 0 = rw (get_or-drop (i + 1) s 0 0, add-zero) in
    rw (drop_more s i 0 h, next)

-- the byte that stops a run
pub run_len-stops : (p : ℕ → ℕ → Bool) (s : List ℕ) → run_len p s < length s → p (get_or s (run_len p s) 0) (get_or s (suc (run_len p s)) 0) ≡ false
run_len-stops p [] h = absurd (omega arith)
run_len-stops p (c ∷ cs) h =
    elim (cases_Bool (p c (first cs))) [
      | inl pass ↦ let h2 = rw pass at h in let e : 1 + run_len p cs ≡ suc (run_len p cs) = omega arith in rw (pass, e) (run_len-stops p cs (omega arith))
      | inr stop ↦ rw (stop, stop)
    ]

-- the bytes of a run
pub run_len-passes : (p : ℕ → ℕ → Bool) (s : List ℕ) (k : ℕ) → k < run_len p s → p (get_or s k 0) (get_or s (suc k) 0) ≡ true
run_len-passes p [] k h = absurd (omega arith)
run_len-passes p (c ∷ cs) zero h =
    elim (cases_Bool (p c (first cs))) [
      | inl pass ↦ pass
      | inr stop ↦ let h2 = rw stop at h in absurd (omega arith)
    ]
run_len-passes p (c ∷ cs) (suc k) h =
    elim (cases_Bool (p c (first cs))) [
      | inl pass ↦ let h2 = rw pass at h in run_len-passes p cs k (omega arith)
      | inr stop ↦ let h2 = rw stop at h in absurd (omega arith)
    ]

after_ascii : (p : ℕ → ℕ → Bool) (s : List ℕ) (n : ℕ) → run_len p s ≡ n → IsUtf8 s → ((c d : ℕ) → p c d ≡ true → c < 128) → IsCharBoundary s n
after_ascii p s zero e utf8 ascii = IsCharBoundary-start s utf8
after_ascii p s (suc k) e utf8 ascii =
    rw (← add-one) (IsCharBoundary-after_ascii s k utf8 (omega (arith, run_len-le p s)) (ascii _ _ (run_len-passes p s k (omega arith))))

-- a run of ASCII bytes ends where a character does
pub boundary-ascii : (p : ℕ → ℕ → Bool) (s : List ℕ) → IsUtf8 s → ((c d : ℕ) → p c d ≡ true → c < 128) → IsCharBoundary s (run_len p s)
boundary-ascii p s = after_ascii p s _ refl

-- and so does a run that only an ASCII byte stops
pub boundary-wide : (p : ℕ → ℕ → Bool) (s : List ℕ) → ((c d : ℕ) → p c d ≡ false → c < 128) → IsCharBoundary s (run_len p s)
boundary-wide p s ascii =
    elim (cases_lt (run_len p s) (length s)) [
      | inl within ↦ IsCharBoundary-before_ascii s _ within (ascii _ _ (run_len-stops p s within))
      | inr past ↦ subst (IsCharBoundary s) (omega (arith, run_len-le p s)) (IsCharBoundary-end s)
    ]

-- a byte that is not 0 was read inside the text
pub within_from_byte : (s : List ℕ) (i : ℕ) → 0 < get_or s i 0 → i < length s
within_from_byte s i h = elim (cases_lt i (length s)) [ inl within ↦ within | inr past ↦ absurd (omega (arith, get_or_past s i 0 past)) ]

-- the place after an ASCII byte at the start
pub boundary-one : (s : List ℕ) → IsUtf8 s → 0 < get_or s 0 0 → get_or s 0 0 < 128 → IsCharBoundary s 1
boundary-one s utf8 some ascii = let one : 0 + 1 ≡ 1 = omega arith in subst (IsCharBoundary s) one (IsCharBoundary-after_ascii s 0 utf8 (within_from_byte s 0 some) ascii)

pub ruleset the_runs = (run_len-drop, run_len-le)
