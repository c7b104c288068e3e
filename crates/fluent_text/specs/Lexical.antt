-- Lines, blanks and names: the parts of the grammar that hold no other (Fluent Syntax 1.0, EBNF, "Identifier" and "Whitespace").
use Rattle.std.specs.Prelude.{ℕ, ◌+◌, Bool, not, ◌&&◌, ◌||◌, ◌==◌, if◌then◌else◌, length, Some, None}
use Rattle.std.specs.Char.{is_ascii_alphanumeric, is_ascii_alphabetic, is_ascii_uppercase, is_ascii_digit}
use Rattle.fluent_text.specs.Parser.{Text, Parser, ◌>>=◌, ◌>>◌, ◌<$>◌, ◌<|>◌, pure, ignore, skip, count, first, byte, run, run1}

-- ---- bytes

abbrev pub is_letter : ℕ → Bool
is_letter c = is_ascii_alphabetic c

-- [a-zA-Z0-9_-]
abbrev pub is_identifier_byte : ℕ → ℕ → Bool
is_identifier_byte c next = (is_ascii_alphanumeric c || c == 95) || c == 45

abbrev pub is_digit : ℕ → ℕ → Bool
is_digit c next = is_ascii_digit c

abbrev pub is_space : ℕ → ℕ → Bool
is_space c next = c == 32

-- a byte of a line that isn't its line feed
abbrev pub is_inside : ℕ → ℕ → Bool
is_inside c next = not (c == 10)

-- a byte that begins no escape
abbrev pub is_plain : ℕ → ℕ → Bool
is_plain c next = not (c == 92)

-- a byte of a text_char. A carriage return before a line feed is the start of a line_end.
abbrev pub is_text : ℕ → ℕ → Bool
is_text c next =
    ((not (c == 123) && not (c == 125)) && not (c == 10)) && not (c == 13 && next == 10)

-- a byte of a quoted_char that is no escape: all but `"`, `\` and the start of a line_end
abbrev pub is_quoted : ℕ → ℕ → Bool
is_quoted c next =
    ((not (c == 34) && not (c == 92)) && not (c == 10)) && not (c == 13 && next == 10)

-- [A-Z0-9_-]
abbrev pub is_function_byte : ℕ → ℕ → Bool
is_function_byte c next = ((is_ascii_uppercase c || is_ascii_digit c) || c == 95) || c == 45

-- ---- lines and blanks

-- Identifier ::= [a-zA-Z] [a-zA-Z0-9_-]*
unfoldable pub identifier : Parser Text
identifier = λ s. if is_letter (first s) then run is_identifier_byte s else None

-- blank_inline ::= one or more of U+0020
unfoldable pub blank_inline : Parser ℕ
blank_inline = length <$> run1 is_space

abbrev pub at_end : Parser (Unit {0})
at_end = λ s. if length s == 0 then Some (tt, s) else None

unfoldable pub line_break : Parser (Unit {0})
line_break = (byte 13 >> byte 10) <|> byte 10

-- line_end ::= CR LF | LF | end of the text
unfoldable pub line_end : Parser (Unit {0})
line_end = line_break <|> at_end

-- one line of a blank_block
unfoldable pub blank_line : Parser (Unit {0})
blank_line = skip blank_inline >> line_end

-- blank_block ::= (blank_inline? line_end)+, by the count of the line ends
unfoldable pub blank_block : Parser ℕ
blank_block = do
  blank_line
  more ← count blank_line
  pure (more + 1)

-- blank_inline | line_end
unfoldable pub blank_turn : Parser (Unit {0})
blank_turn = ignore blank_inline <|> line_end

-- blank ::= (blank_inline | line_end)+
unfoldable pub blank : Parser (Unit {0})
blank = blank_turn >> ignore (count blank_turn)
