-- Rules in the parts in which the code reads them: what is told at once, and the rest.
use Rattle.std.specs.Prelude.{Bool}
use Rattle.fluent_ast.specs.Tree.{Text, Pattern, Key, Inline, message, function, nested, Variant}
use Rattle.fluent_text.specs.Parser.{Parser, ◌>>=◌, ◌>>◌, ◌<$>◌, ◌<|>◌, pure, skip, count, byte}
use Rattle.fluent_text.specs.Lexical.{blank_inline, blank, line_end}
use Rattle.fluent_syntax.specs.Pieces.{pattern}
use Rattle.fluent_syntax.specs.Expressions.{Level, source_of, quoted_turn, literal, term_reference, attribute_access, provided, is_function_name, key_inside, star}
use Rattle.fluent_syntax.specs.Entries.{name_of_value, value}

-- the quotes: what stands after the first
abbrev pub quoted_text : Parser Text
quoted_text = do
  t ← source_of (count quoted_turn)
  byte 34
  pure t

-- the message whose name was read
abbrev pub message_to : Text → Parser Inline
message_to id = (λ a. message id a) <$> attribute_access

-- what the name that was read refers to
abbrev pub reference_to : Level → Text → Parser Inline
reference_to g id = (provided (is_function_name id) >> ((λ a. function id a) <$> g.brackets)) <|> message_to id

-- an expression that begins neither with a name nor as a variable does
abbrev pub nameless : Level → Parser Inline
nameless g = literal <|> term_reference g <|> (nested <$> g.braces)

-- what stands before the key of a variant
abbrev pub key_opened : Bool → Parser (Unit {0})
key_opened default = line_end >> skip blank >> star default >> byte 91

abbrev pub key_closed : Parser Key
key_closed = do
  skip blank
  key ← key_inside
  skip blank
  byte 93
  skip blank_inline
  pure key

abbrev pub opened_variant : Level → Bool → Parser Variant
opened_variant g default = do
  key ← key_closed
  p ← pattern g.braces
  pure (key, p, default)

-- what stands before the name of an attribute
abbrev pub attribute_dot : Parser (Unit {0})
attribute_dot = line_end >> skip blank >> byte 46

abbrev pub named_attribute : Parser (Text × Pattern)
named_attribute = do
  id ← name_of_value
  v ← value
  pure (id, v)
