-- Marks, a byte further.
use Rattle.std.proofs.Common.{◌≡◌, ◌⊎◌, inl, inr, ◌+◌, ◌<◌, ◌≤◌, ℕ, zero, suc, List, [], ◌∷◌, length, get_or, take, arith, refl, sym, ap, ◌∙◌}
use Rattle.fluent_ast.specs.Tree.{Text}
use Rattle.fluent_places.specs.Facts.LinesOn.{feed_line, feed_column, same_line, next_column, same_column}
use Rattle.fluent_sources.specs.LineMarks.{IsMark}
use Rattle.fluent_sources.specs.declared.lines.Mark.{Mark}

-- what is read is what stands there
pub read_itself : (xs : List ℕ) (i : ℕ) → get_or xs i 0 ≡ get_or xs i (get_or xs i 0)
read_itself [] i = refl
read_itself (x ∷ xs) zero = refl
read_itself (x ∷ xs) (suc i) = read_itself xs i

module _ (xs : Text) (m : Mark) (is : IsMark xs m) (h : m.at < length xs) (b : ℕ) (read : b ≡ get_or xs m.at b) where
  pub past_feed : b ≡ 10 → IsMark xs (record { at = m.at + 1; line = m.line + 1; column = 1 })
  past_feed ten = record {
    within = omega arith;
    line = feed_line xs m.at b h m.line is.line ten read;
    column = feed_column xs m.at b h m.column is.column ten read;
    lines_fit = omega (arith, is.lines_fit);
    columns_fit = omega arith;
  }

  pub past_character : (b ≡ 10 → ⊥) → (b < 128) ⊎ (192 ≤ b) → IsMark xs (record { at = m.at + 1; line = m.line; column = m.column + 1 })
  past_character other begins = record {
    within = omega arith;
    line = same_line xs m.at b h m.line is.line other read;
    column = next_column xs m.at b h m.column is.column other begins read;
    lines_fit = omega (arith, is.lines_fit);
    columns_fit = omega (arith, is.columns_fit);
  }

  pub past_continuation : (b ≡ 10 → ⊥) → (b < 128 → ⊥) → (192 ≤ b → ⊥) → IsMark xs (record { at = m.at + 1; line = m.line; column = m.column })
  past_continuation other low high = record {
    within = omega arith;
    line = same_line xs m.at b h m.line is.line other read;
    column = same_column xs m.at b h m.column is.column other low high read;
    lines_fit = omega (arith, is.lines_fit);
    columns_fit = omega (arith, is.columns_fit);
  }
