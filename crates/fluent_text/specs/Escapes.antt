-- What a quoted text means, escape by escape (Fluent Syntax 1.0, EBNF, "quoted_char", and "Special Characters").
use Rattle.std.specs.Prelude.{ℕ, zero, suc, ◌+◌, ◌*◌, ◌&&◌, ◌||◌, nat_lt, nat_le, [], ◌∷◌, ◌++◌, length, drop, encode_utf8, Some, None, if◌then◌else◌}
use Rattle.std.specs.Char.{digit_value}
use Rattle.fluent_text.specs.Parser.{Text, Read, Parser, ◌>>=◌, ◌>>◌, ◌<|>◌, pure, ◌<$>◌, many_from, first, byte, run1}
use Rattle.fluent_text.specs.Lexical.{is_plain}

-- U+FFFD
abbrev pub replacement : Text
replacement = encode_utf8 0xfffd

-- the character of a number; a surrogate, and what is above 10FFFF, is none
abbrev pub character : ℕ → Text
character n = if (nat_le 0xd800 n && nat_le n 0xdfff) || nat_lt 0x10ffff n then replacement else encode_utf8 n

-- one hexadecimal digit, in either case of letters
unfoldable pub hex_digit : Parser ℕ
hex_digit = λ s. if nat_lt (digit_value (first s)) 16 then Some (digit_value (first s), drop 1 s) else None

-- the number that k more digits make of n
unfoldable pub hex_number : ℕ → ℕ → Parser ℕ
hex_number zero n = pure n
hex_number (suc k) n = hex_digit >>= (λ d. hex_number k (n * 16 + d))

-- the character of k hexadecimal digits
unfoldable pub numbered : ℕ → Parser Text
numbered k = character <$> hex_number k 0

-- the same after a letter
abbrev pub numbered_after : ℕ → ℕ → Parser Text
numbered_after letter k = byte letter >> numbered k

-- What stands after a backslash: another one, a quote, `u` and 4 digits, `U` and 6. Where it is none of these, nothing is taken, and the backslash alone is replaced.
unfoldable pub escape : Parser Text
escape =
    (byte 92 >> pure (92 ∷ []))
    <|> (byte 34 >> pure (34 ∷ []))
    <|> numbered_after 117 4
    <|> numbered_after 85 6
    <|> pure replacement

-- a run of text without a backslash, or a backslash with what it begins
unfoldable pub part : Parser Text
part = run1 is_plain <|> (byte 92 >> escape)

abbrev pub value_of : Read Text → Text
value_of None = []
value_of (Some p) = p.0

-- the parts of a text, one after the other
abbrev pub unescaped : Text → Text
unescaped t = value_of (many_from ◌++◌ part (length t) [] t)
