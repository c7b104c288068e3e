-- Messages and terms with their attributes (Fluent Syntax 1.0, EBNF, "Entry", "Message", "Term" and "Attribute").
use Rattle.std.specs.Prelude.{[], ◌∷◌, length, Option, Some, None}
use Rattle.fluent_ast.specs.Tree.{Text, Pattern, Attributes, Entry, message_entry, term_entry}
use Rattle.fluent_text.specs.Parser.{Parser, ◌>>=◌, ◌>>◌, ◌<|>◌, pure, skip, many, many_from, push, byte}
use Rattle.fluent_text.specs.Lexical.{identifier, blank_inline, blank, line_end}
use Rattle.fluent_syntax.specs.Pieces.{pattern}
use Rattle.fluent_syntax.specs.Expressions.{level}

-- a pattern of an entry, in which no more than 100 placeables and argument lists stand in one another
unfoldable pub value : Parser Pattern
value = pattern (level 100).braces

-- Identifier blank_inline? "=" blank_inline?
unfoldable pub name_of_value : Parser Text
name_of_value = do
  id ← identifier
  skip blank_inline
  byte 61
  skip blank_inline
  pure id

-- Attribute ::= line_end blank? "." Identifier blank_inline? "=" blank_inline? Pattern
unfoldable pub attribute : Parser (Text × Pattern)
attribute = do
  line_end
  skip blank
  byte 46
  id ← name_of_value
  v ← value
  pure (id, v)

-- Pattern Attribute*
unfoldable pub value_first : Parser (Option Pattern × Attributes)
value_first = do
  v ← value
  others ← many attribute
  pure (Some v, others)

-- Attribute+
unfoldable pub attributes_alone : Parser (Option Pattern × Attributes)
attributes_alone = do
  a ← attribute
  others ← (λ s. many_from push attribute (length s) (a ∷ []) s)
  pure (None, others)

-- Message ::= Identifier blank_inline? "=" blank_inline? ((Pattern Attribute*) | Attribute+)
unfoldable pub message : Parser Entry
message = do
  id ← name_of_value
  c ← (value_first <|> attributes_alone)
  pure (message_entry id c.0 c.1)

-- Term ::= "-" Identifier blank_inline? "=" blank_inline? Pattern Attribute*
unfoldable pub term : Parser Entry
term = do
  byte 45
  id ← name_of_value
  v ← value
  others ← many attribute
  pure (term_entry id v others)

-- Entry ::= Message line_end | Term line_end
unfoldable pub entry : Parser Entry
entry = do
  e ← (message <|> term)
  line_end
  pure e
