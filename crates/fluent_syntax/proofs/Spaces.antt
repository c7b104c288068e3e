-- Blanks that are spaces alone.
use Rattle.std.proofs.Common.{◌≡◌, ◌==◌, ℕ, ◌<◌, false, List, [], ◌∷◌, length, Some, None, refl, ap, subst, arith}
use Rattle.std.proofs.lemmas.Bool.Decides.{nat_tests}
use Rattle.fluent_text.specs.Parser.{Read, pure, otherwise, and_then, skip, count, one_more, first, byte, run1}
use Rattle.fluent_text.specs.Lexical.{blank_inline, line_break, at_end, line_end, blank_turn, blank}
use Rattle.fluent_text.specs.Facts.Turns.{none}

pub not_end : (s : List ℕ) → 0 < length s → at_end s ≡ None
not_end s h = let some : (length s == 0) ≡ false = grind (arith, nat_tests) in rw some refl

pub some_bytes : (s : List ℕ) → 32 < first s → 0 < length s
some_bytes [] h = absurd (omega arith)
some_bytes (c ∷ cs) h = omega arith

-- no blank begins with a byte above the space
no_turn : (s : List ℕ) → 32 < first s → blank_turn s ≡ None
unfolding blank_turn blank_inline line_end line_break run1 byte
no_turn [] h = absurd (omega arith)
no_turn (c ∷ cs) h =
    let a : (c == 32) ≡ false = grind (arith, nat_tests) in
    let b : (c == 13) ≡ false = grind (arith, nat_tests) in
    let d : (c == 10) ≡ false = grind (arith, nat_tests) in
    rw (a, b, d, not_end (c ∷ cs) (omega arith)) refl

no_turns : (s : List ℕ) → 32 < first s → count blank_turn s ≡ Some (0, s)
no_turns s h = none one_more blank_turn (length s) 0 s (some_bytes s h) (no_turn s h)

turn_at : (s t : List ℕ) (n : ℕ) → blank_inline s ≡ Some (n, t) → blank_turn s ≡ Some (tt, t)
unfolding blank_turn
turn_at s t n e = rw e refl

pub no_spaces : (s : List ℕ) → 32 < first s → skip blank s ≡ Some (tt, s)
unfolding blank
no_spaces s h = rw (no_turn s h) refl

some_spaces : (s t : List ℕ) (n : ℕ) → blank_inline s ≡ Some (n, t) → 32 < first t → skip blank s ≡ Some (tt, t)
unfolding blank
some_spaces s t n e h = rw (turn_at s t n e, no_turns t h) refl

rest_of : Read (Unit {0}) → List ℕ
rest_of None = []
rest_of (Some p) = p.1

either : (r : Read ℕ) (s rest : List ℕ) → blank_inline s ≡ r → otherwise (and_then r (λ x. pure (tt {0}))) (pure (tt {0})) s ≡ Some (tt, rest) → 32 < first rest → skip blank s ≡ Some (tt, rest)
unfolding rest_of
either None s rest e h l = let same : s ≡ rest = ap rest_of h in subst (λ t. 32 < first t → skip blank s ≡ Some (tt, t)) same (λ k. no_spaces s k) l
either (Some p) s rest e h l = let same : p.1 ≡ rest = ap rest_of h in subst (λ t. 32 < first t → skip blank s ≡ Some (tt, t)) same (λ k. some_spaces s p.1 p.0 e k) l

-- spaces before a byte above the space are the whole blank
pub only_spaces : (s rest : List ℕ) → skip blank_inline s ≡ Some (tt, rest) → 32 < first rest → skip blank s ≡ Some (tt, rest)
only_spaces s rest h l = either (blank_inline s) s rest refl h l
