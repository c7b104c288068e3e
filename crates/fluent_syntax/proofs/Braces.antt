-- A placeable begins with a brace.
use Rattle.std.proofs.Common.{◌≡◌, ◌==◌, ℕ, zero, suc, false, List, None, refl}
use Rattle.fluent_text.specs.Parser.{first}
use Rattle.fluent_syntax.specs.Expressions.{level, inline_placeable}
use Rattle.fluent_syntax.proofs.BareReferences.{no_byte}

pub no_brace : (n : ℕ) (s : List ℕ) → (first s == 123) ≡ false → (level n).braces s ≡ None
unfolding level inline_placeable
no_brace zero s e = refl
no_brace (suc n) s e = rw (no_byte 123 s e) refl
