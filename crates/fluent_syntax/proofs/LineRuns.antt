-- How far a line goes: to its line feed, or to the end.
use Rattle.std.proofs.Common.{◌≡◌, ℕ, suc, ◌<◌, false, true, List, length, get_or, sym, arith, inl, inr}
use Rattle.std.proofs.lemmas.Bool.{cases_Bool}
use Rattle.std.proofs.lemmas.Bool.Decides.{nat_tests}
use Rattle.memchr.specs.Find.{Nowhere, Passes, is_byte}
use Rattle.fluent_text.specs.Parser.{run_len}
use Rattle.fluent_text.specs.Lexical.{is_inside}
use Rattle.fluent_syntax.proofs.TextRuns.{run_len-is}

abbrev pub Before : List ℕ → ℕ → Type 0
Before s m = Nowhere (Passes (is_byte 10) s) 0 m

passes : (c d : ℕ) → is_byte 10 c ≡ false → is_inside c d ≡ true
passes c d e = grind (arith, nat_tests)

stops : (c d : ℕ) → is_byte 10 c ≡ true → is_inside c d ≡ false
stops c d e = grind (arith, nat_tests)

inside : (s : List ℕ) (m k : ℕ) → Before s m → k < m → is_inside (get_or s k 0) (get_or s (suc k) 0) ≡ true
inside s m k none h =
    elim (cases_Bool (is_byte 10 (get_or s k 0))) [
      | inl hit ↦ absurd (none k (omega arith) h hit)
      | inr miss ↦ passes (get_or s k 0) (get_or s (suc k) 0) miss
    ]

pub line_to_end : (s : List ℕ) → Before s (length s) → length s ≡ run_len is_inside s
line_to_end s none = sym (run_len-is is_inside s (length s) (omega arith) (λ j h. inside s (length s) j none h) (λ h. absurd (omega arith)))

pub line_to_feed : (s : List ℕ) (m : ℕ) → m < length s → Before s m → is_byte 10 (get_or s m 0) ≡ true → m ≡ run_len is_inside s
line_to_feed s m within none hit = sym (run_len-is is_inside s m (omega arith) (λ j h. inside s m j none h) (λ h. stops (get_or s m 0) (get_or s (suc m) 0) hit))
