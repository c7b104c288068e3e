-- The pieces of a pattern in the source (Fluent Syntax 1.0, EBNF, "Pattern" and "PatternElement").
use Rattle.std.specs.Prelude.{ℕ, Bool, false, not, ◌&&◌, ◌==◌, if◌then◌else◌, List, [], ◌∷◌, ◌++◌, length, Option, Some, None, unwrap_or}
use Rattle.fluent_ast.specs.Tree.{Expression, Pattern, pattern_of}
use Rattle.fluent_text.specs.Parser.{Parser, ◌>>=◌, ◌<$>◌, ◌<|>◌, pure, optional, many_from, first, run1}
use Rattle.fluent_text.specs.Lexical.{is_text, blank_inline, blank_block}
use Rattle.fluent_syntax.specs.Layout.{Words, Piece, line, words, hole, elements}

abbrev pub follows : ℕ → List ℕ → Bool
follows c s = first s == c

-- text_char+, after what stands before it on its line
unfoldable pub words_after : Option ℕ → Parser Words
words_after indent = do
  u ← run1 is_text
  fed ← (λ s. Some (follows 10 s, s))
  pure (record { indent = indent; bytes = u; fed = fed })

-- inline_text ::= text_char+
abbrev pub inline_text : Parser Words
inline_text = words_after None

-- indented_char ::= text_char - "[" - "*" - "."
abbrev pub is_indented : List ℕ → Bool
is_indented s = (not (first s == 91) && not (first s == 42)) && not (first s == 46)

-- indented_char inline_text?
abbrev pub indented_text : ℕ → Parser Words
indented_text indent = λ s. if is_indented s then words_after (Some indent) s else None

-- block_text ::= blank_block blank_inline indented_char inline_text?
unfoldable pub block_text : Parser (ℕ × Words)
block_text = do
  ends ← blank_block
  n ← blank_inline
  w ← indented_text n
  pure (ends, w)

-- the indent before a placeable that begins a line, 0 where there is none
unfoldable pub indent : Parser Words
indent = do
  n ← optional blank_inline
  pure (record { indent = Some (unwrap_or n 0); bytes = []; fed = false })

-- What a placeable is, is a parameter.
module _ (inline_placeable : Parser Expression) where
  -- block_placeable ::= blank_block blank_inline? inline_placeable
  unfoldable pub block_placeable : Parser (List Piece)
  block_placeable = do
    ends ← blank_block
    w ← indent
    x ← inline_placeable
    pure (line ends ∷ words w ∷ hole x ∷ [])

  -- PatternElement ::= inline_text | block_text | inline_placeable | block_placeable
  unfoldable pub pattern_element : Parser (List Piece)
  pattern_element =
      ((λ w. words w ∷ []) <$> inline_text)
      <|> ((λ p. line p.0 ∷ words p.1 ∷ []) <$> block_text)
      <|> ((λ x. hole x ∷ []) <$> inline_placeable)
      <|> block_placeable

  -- Pattern ::= PatternElement+
  unfoldable pub pieces : Parser (List Piece)
  pieces = do
    prefix ← pattern_element
    (λ s. many_from ◌++◌ pattern_element (length s) prefix s)

  -- with its text as the layout has it
  abbrev pub pattern : Parser Pattern
  pattern = (λ ps. pattern_of (elements ps)) <$> pieces
