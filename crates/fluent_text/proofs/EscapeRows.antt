-- Worked escapes.
use Rattle.std.proofs.Common.{◌≡◌, [], ◌∷◌, refl}
use Rattle.std.specs.Prelude.{codes}
use lib.Utf8.{encode}
use Rattle.fluent_text.specs.Parser as p
use Rattle.fluent_text.specs.Escapes as e
use Rattle.fluent_text.specs.Escapes.{unescaped}

-- a text without a backslash is itself
pub row_plain : unescaped (codes "hello") ≡ codes "hello"
unfolding p.many_from p.byte p.run1 e.hex_digit e.hex_number e.numbered e.escape e.part encode
row_plain = refl

-- the empty text
pub row_empty : unescaped [] ≡ []
unfolding p.many_from p.byte p.run1 e.hex_digit e.hex_number e.numbered e.escape e.part encode
row_empty = refl

-- a backslash
pub row_backslash : unescaped (codes "\\\\") ≡ codes "\\"
unfolding p.many_from p.byte p.run1 e.hex_digit e.hex_number e.numbered e.escape e.part encode
row_backslash = refl

-- a quote
pub row_quote : unescaped (codes "\\\"") ≡ codes "\""
unfolding p.many_from p.byte p.run1 e.hex_digit e.hex_number e.numbered e.escape e.part encode
row_quote = refl

-- four digits
pub row_four : unescaped (codes "\\u0041") ≡ codes "A"
unfolding p.many_from p.byte p.run1 e.hex_digit e.hex_number e.numbered e.escape e.part encode
row_four = refl

-- six digits
pub row_six : unescaped (codes "\\U01F602") ≡ 0xf0 ∷ 0x9f ∷ 0x98 ∷ 0x82 ∷ []
unfolding p.many_from p.byte p.run1 e.hex_digit e.hex_number e.numbered e.escape e.part encode
row_six = refl

-- six digits, of which four would do: what follows is text
pub row_six_and_more : unescaped (codes "\\U0000411") ≡ codes "A1"
unfolding p.many_from p.byte p.run1 e.hex_digit e.hex_number e.numbered e.escape e.part encode
row_six_and_more = refl

-- small letters are digits too
pub row_small : unescaped (codes "\\u00e9") ≡ 0xc3 ∷ 0xa9 ∷ []
unfolding p.many_from p.byte p.run1 e.hex_digit e.hex_number e.numbered e.escape e.part encode
row_small = refl

-- a surrogate is no character
pub row_surrogate : unescaped (codes "\\uD800") ≡ 0xef ∷ 0xbf ∷ 0xbd ∷ []
unfolding p.many_from p.byte p.run1 e.hex_digit e.hex_number e.numbered e.escape e.part encode
row_surrogate = refl

-- nor is a number above 10FFFF
pub row_above : unescaped (codes "\\U110000") ≡ 0xef ∷ 0xbf ∷ 0xbd ∷ []
unfolding p.many_from p.byte p.run1 e.hex_digit e.hex_number e.numbered e.escape e.part encode
row_above = refl

-- what is around an escape stays
pub row_around : unescaped (codes "a\\u0041b\\\\") ≡ codes "aAb\\"
unfolding p.many_from p.byte p.run1 e.hex_digit e.hex_number e.numbered e.escape e.part encode
row_around = refl

-- a backslash that begins no escape is replaced, and what follows is text
pub row_none : unescaped (codes "\\q") ≡ 0xef ∷ 0xbf ∷ 0xbd ∷ 0x71 ∷ []
unfolding p.many_from p.byte p.run1 e.hex_digit e.hex_number e.numbered e.escape e.part encode
row_none = refl

-- too few digits are none
pub row_few : unescaped (codes "\\u00") ≡ 0xef ∷ 0xbf ∷ 0xbd ∷ 0x75 ∷ 0x30 ∷ 0x30 ∷ []
unfolding p.many_from p.byte p.run1 e.hex_digit e.hex_number e.numbered e.escape e.part encode
row_few = refl

-- a backslash at the end
pub row_alone : unescaped (codes "\\") ≡ 0xef ∷ 0xbf ∷ 0xbd ∷ []
unfolding p.many_from p.byte p.run1 e.hex_digit e.hex_number e.numbered e.escape e.part encode
row_alone = refl
