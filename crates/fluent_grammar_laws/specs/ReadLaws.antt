-- The tree that a rule reads is said by the bytes that it takes.
use Rattle.std.specs.Prelude.{◌≡◌, ℕ, false, List, ◌++◌, map, Some}
use Rattle.fluent_ast.specs.Tree.{Text, Expression}
use Rattle.fluent_text.specs.Parser.{Parser, ◌<$>◌}
use Rattle.fluent_syntax.specs.Layout.{Words, Piece, line, words, hole}
use Rattle.fluent_syntax.specs.Pieces.{inline_text, block_text, pattern_element}

-- Where a rule takes the same prefix of two texts, whatever stands after it in each, it reads the same tree from both.
abbrev pub TreeOfPrefix : {A : Type 0} → Parser A → Type 0
TreeOfPrefix {A = A} rule = (prefix one other : Text) (x y : A) → rule (prefix ++ one) ≡ Some (x, one) → rule (prefix ++ other) ≡ Some (y, other) → x ≡ y

-- ---- what texts take

-- Words note whether a line feed follows them at once. That is no part of what they take: this is.
abbrev pub taken_words : Words → Words
taken_words w = record w { fed = false }

abbrev pub taken_piece : Piece → Piece
taken_piece (words w) = words (taken_words w)
taken_piece (line n) = line n
taken_piece (hole x) = hole x

-- inline_text, block_text and PatternElement without the note
unfoldable pub text_taken : Parser Words
text_taken = taken_words <$> inline_text

unfoldable pub block_taken : Parser (ℕ × Words)
block_taken = (λ p. (p.0, taken_words p.1)) <$> block_text

unfoldable pub element_taken : Parser Expression → Parser (List Piece)
element_taken inline_placeable = (λ ps. map taken_piece ps) <$> pattern_element inline_placeable
