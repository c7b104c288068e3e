-- The parts of literals: prefixes and turns.
use Rattle.std.proofs.Common.{◌≡◌, ℕ, zero, suc, ◌-◌, ◌<◌, List, Some, None, ap, ◌∙◌, arith}
use Rattle.std.specs.Char.{is_ascii_hexdigit}
use Rattle.fluent_text.specs.Parser.{◌>>◌, byte, ignore, run1, skip, first}
use Rattle.fluent_text.specs.Lexical.{is_quoted, is_digit}
use Rattle.fluent_syntax.specs.Expressions.{hex_digit, hex_digits, escape, quoted_turn, digits, number_parts}
use Rattle.fluent_syntax.specs.Facts.Prefixes.{Takes, takes-pure, takes-then, takes-or, takes-skip, takes-ignore, takes-run1, takes-byte, takes-test, takes-drop, takes-nothing}

-- ---- prefixes

takes-hex_digit : Takes hex_digit
unfolding hex_digit
takes-hex_digit = takes-test (λ s. is_ascii_hexdigit (first s)) _ _ (takes-drop tt 1) takes-nothing

takes-hex_digits : (n : ℕ) → Takes (hex_digits n)
unfolding hex_digits
takes-hex_digits zero = takes-pure tt
takes-hex_digits (suc n) = takes-then hex_digit (hex_digits n) takes-hex_digit (takes-hex_digits n)

pub takes-escape : Takes escape
unfolding escape
takes-escape = takes-then (byte 92) _ (takes-byte 92) (takes-or (byte 92) _ (takes-byte 92) (takes-or (byte 34) _ (takes-byte 34) (takes-or (byte 117 >> hex_digits 4) _ (takes-then (byte 117) _ (takes-byte 117) (takes-hex_digits 4)) (takes-then (byte 85) _ (takes-byte 85) (takes-hex_digits 6)))))

pub takes-quoted_turn : Takes quoted_turn
unfolding quoted_turn
takes-quoted_turn = takes-or (ignore (run1 is_quoted)) escape (takes-ignore (run1 is_quoted) (takes-run1 is_quoted)) takes-escape

takes-digits : Takes digits
unfolding digits
takes-digits = takes-run1 is_digit

pub takes-number_parts : Takes number_parts
unfolding number_parts
takes-number_parts = takes-then (skip (byte 45)) _ (takes-skip (byte 45) (takes-byte 45)) (takes-then digits _ takes-digits (takes-skip (byte 46 >> digits) (takes-then (byte 46) digits (takes-byte 46) takes-digits)))

-- ---- turns over hexadecimal digits

pub hex_more : (k j : ℕ) (s r : List ℕ) → k ≡ suc j → hex_digit s ≡ Some (tt, r) → hex_digits k s ≡ hex_digits j r
unfolding hex_digits
hex_more k j s r e h = ap (λ n. hex_digits n s) e ∙ rw h

pub hex_none : (k : ℕ) (s : List ℕ) → 0 < k → hex_digit s ≡ None → hex_digits k s ≡ None
unfolding hex_digits
hex_none k s room h = let k1 : k ≡ suc (k - 1) = omega arith in ap (λ n. hex_digits n s) k1 ∙ rw h

pub hex_done : (k : ℕ) (s : List ℕ) → k ≡ 0 → hex_digits k s ≡ Some (tt, s)
unfolding hex_digits
hex_done k s e = ap (λ n. hex_digits n s) e

pub ruleset hex_turns = (hex_none, hex_done)
