-- A line end with no blank line after it.
use Rattle.std.proofs.Common.{◌≡◌, ◌==◌, ℕ, ◌<◌, Bool, true, false, List, length, Some, None, refl, sym, arith, inl, inr, not}
use Rattle.std.proofs.lemmas.Bool.{cases_Bool, cases_lt}
use Rattle.std.proofs.lemmas.Bool.Decides.{nat_tests}
use Rattle.fluent_text.specs.Parser.{first, one_more, count}
use Rattle.fluent_text.specs.Lexical.{blank_inline, line_break, line_end, blank_line, blank_block}
use Rattle.fluent_text.specs.Facts.Turns.{none, done}
use Rattle.fluent_syntax.specs.Inside.Progress.{closes_pattern, LineEndsPattern}
use Rattle.fluent_syntax.specs.Facts.OneLine.{no_blank_inline, ends, ends_at, closes}
use Rattle.fluent_syntax.proofs.BareReferences.{no_byte, none_some}
use Rattle.fluent_syntax.proofs.Spaces.{not_end, some_bytes}

no_break : (s : List ℕ) → (first s == 13) ≡ false → (first s == 10) ≡ false → line_break s ≡ None
unfolding line_break
no_break s r f = rw (no_byte 13 s r, no_byte 10 s f) refl

-- a line end is no space
break_first : (s line : List ℕ) → line_break s ≡ Some (tt, line) → (first s == 32) ≡ false
break_first s line e =
    elim (cases_Bool (first s == 32)) [
      | inl space ↦ absurd (none_some (line_break s) (tt, line) (no_break s (grind (arith, nat_tests)) (grind (arith, nat_tests))) e)
      | inr other ↦ other
    ]

no_line_end : (s : List ℕ) → 32 < first s → line_end s ≡ None
unfolding line_end
no_line_end s h = rw (no_break s (grind (arith, nat_tests)) (grind (arith, nat_tests)), not_end s (some_bytes s h)) refl

blank_at : (s line : List ℕ) → line_break s ≡ Some (tt, line) → blank_line s ≡ Some (tt, line)
unfolding blank_line line_end
blank_at s line e = rw (no_blank_inline s (break_first s line e), e) refl

plain_line : (line : List ℕ) → blank_inline line ≡ None → 32 < first line → blank_line line ≡ None
unfolding blank_line
plain_line line i h = rw (i, no_line_end line h) refl

indented_line : (line t : List ℕ) (m : ℕ) → blank_inline line ≡ Some (m, t) → 32 < first t → blank_line line ≡ None
unfolding blank_line
indented_line line t m i h = rw (i, no_line_end t h) refl

no_lines : (line : List ℕ) → blank_line line ≡ None → count blank_line line ≡ Some (0, line)
no_lines line e =
    elim (cases_lt 0 (length line)) [
      | inl some ↦ none one_more blank_line (length line) 0 line some e
      | inr empty ↦ done one_more blank_line (length line) 0 line (omega arith)
    ]

one_end : (s line : List ℕ) → line_break s ≡ Some (tt, line) → blank_line line ≡ None → blank_block s ≡ Some (1, line)
unfolding blank_block
one_end s line e n = rw (blank_at s line e, no_lines line n) refl

-- the next line isn't indented, and no placeable begins it
pub plain_ends : (s line : List ℕ) → line_break s ≡ Some (tt, line) → blank_inline line ≡ None → 32 < first line → (first line == 123) ≡ false → LineEndsPattern s
plain_ends s line e i h b = λ t o n. ends n s line 1 t o (one_end s line e (plain_line line i h)) i b

-- the next line is indented, and what begins it belongs to no pattern
pub indented_ends : (s line u : List ℕ) (m : ℕ) → line_break s ≡ Some (tt, line) → blank_inline line ≡ Some (m, u) → 32 < first u → closes_pattern (first u) ≡ true → LineEndsPattern s
indented_ends s line u m e i h c = λ t o n. ends_at n s line u 1 m t o (one_end s line e (indented_line line u m i h)) i (closes u c)

pub negated : (a : Bool) → not a ≡ false → a ≡ true
negated true e = refl
negated false e = sym e
