-- Expressions, a parser for each rule of the grammar (Fluent Syntax 1.0, EBNF, from "InlineExpression" to "VariantKey").
use Rattle.std.specs.Prelude.{ℕ, zero, suc, ◌-◌, Bool, true, false, not, ◌&&◌, ◌==◌, if◌then◌else◌, List, [], ◌∷◌, ◌++◌, length, map, take, drop, Some, None}
use Rattle.std.specs.Char.{is_ascii_uppercase, is_ascii_hexdigit}
use Rattle.std.specs.Str.{bytes_eq}
use Rattle.std.specs.Set.{is_member}
use Rattle.fluent_ast.specs.Tree.{Text, Attribute, no_attribute, attribute, Key, name_key, number_key, Expression, inline, select, Inline, string, number, function, message, term, variable, nested, Call, no_call, call, Arguments, arguments, Named, Variant, variants_of, inlines_of, nameds_of}
use Rattle.fluent_text.specs.Parser.{Read, Parser, ◌>>=◌, ◌>>◌, ◌<$>◌, ◌<|>◌, pure, refuse, ignore, skip, many, many_from, count, push, first, byte, run_len, run1}
use Rattle.fluent_text.specs.Lexical.{is_digit, is_quoted, is_function_byte, identifier, blank_inline, line_end, blank}
use Rattle.fluent_syntax.specs.Pieces.{pattern}

-- ---- literals

-- the bytes that a part takes
abbrev pub taken : {A : Type 0} → List ℕ → Read A → Read Text
taken s None = None
taken s (Some p) = Some (take (length s - length p.1) s, p.1)

abbrev pub source_of : {A : Type 0} → Parser A → Parser Text
source_of p = λ s. taken s (p s)

-- [0-9a-fA-F]
unfoldable pub hex_digit : Parser (Unit {0})
hex_digit = λ s. if is_ascii_hexdigit (first s) then Some (tt, drop 1 s) else None

-- so many of them
unfoldable pub hex_digits : ℕ → Parser (Unit {0})
hex_digits zero = pure tt
hex_digits (suc n) = hex_digit >> hex_digits n

-- `\\`, `\"`, `\u` with 4 hexadecimal digits, `\U` with 6
unfoldable pub escape : Parser (Unit {0})
escape = byte 92 >> (byte 92 <|> byte 34 <|> (byte 117 >> hex_digits 4) <|> (byte 85 >> hex_digits 6))

-- an escape, or quoted_chars that are none
unfoldable pub quoted_turn : Parser (Unit {0})
quoted_turn = ignore (run1 is_quoted) <|> escape

-- StringLiteral ::= '"' quoted_char* '"'
unfoldable pub string_literal : Parser Text
string_literal = do
  byte 34
  t ← source_of (count quoted_turn)
  byte 34
  pure t

-- digits ::= [0-9]+
unfoldable pub digits : Parser Text
digits = run1 is_digit

-- "-"? digits ("." digits)?
unfoldable pub number_parts : Parser (Unit {0})
number_parts = do
  skip (byte 45)
  digits
  skip (byte 46 >> digits)

-- NumberLiteral, by its source
unfoldable pub number_literal : Parser Text
number_literal = source_of number_parts

-- StringLiteral | NumberLiteral
unfoldable pub literal : Parser Inline
literal = (string <$> string_literal) <|> (number <$> number_literal)

-- ---- what may stand one level deeper

pub record Level : Type 0 where
  pub braces : Parser Expression
  pub brackets : Parser Arguments

-- ---- references

-- ("." Identifier)?
unfoldable pub attribute_access : Parser Attribute
attribute_access = (attribute <$> (byte 46 >> identifier)) <|> pure no_attribute

-- MessageReference ::= Identifier ("." Identifier)?
unfoldable pub message_reference : Parser Inline
message_reference = do
  id ← identifier
  a ← attribute_access
  pure (message id a)

-- nothing is taken, and what follows is read where this holds
abbrev pub provided : Bool → Parser (Unit {0})
provided true = pure tt
provided false = refuse

-- [A-Z][A-Z0-9_-]*
abbrev pub is_function_name : Text → Bool
is_function_name t = is_ascii_uppercase (first t) && run_len is_function_byte t == length t

-- FunctionReference ::= Identifier CallArguments, by a name that a function may have
unfoldable pub function_reference : Level → Parser Inline
function_reference g = do
  id ← identifier
  provided (is_function_name id)
  a ← g.brackets
  pure (function id a)

-- CallArguments?
unfoldable pub optional_call : Level → Parser Call
optional_call g = (call <$> g.brackets) <|> pure no_call

-- TermReference ::= "-" Identifier ("." Identifier)? CallArguments?
unfoldable pub term_reference : Level → Parser Inline
term_reference g = do
  byte 45
  id ← identifier
  a ← attribute_access
  c ← optional_call g
  pure (term id a c)

-- VariableReference ::= "$" Identifier
unfoldable pub variable_reference : Parser Inline
variable_reference = variable <$> (byte 36 >> identifier)

-- InlineExpression ::= StringLiteral | NumberLiteral | FunctionReference | MessageReference | TermReference | VariableReference | inline_placeable
unfoldable pub inline_expression : Level → Parser Inline
inline_expression g =
    literal
    <|> function_reference g
    <|> message_reference
    <|> term_reference g
    <|> variable_reference
    <|> (nested <$> g.braces)

-- ---- arguments

-- NamedArgument ::= Identifier blank? ":" blank? (StringLiteral | NumberLiteral)
unfoldable pub named_argument : Parser Named
named_argument = do
  name ← identifier
  skip blank
  byte 58
  skip blank
  v ← literal
  pure (name, v)

pub data Argument : Type 0 where
  positional : Inline → Argument
  by_name : Named → Argument

-- Argument ::= NamedArgument | InlineExpression
unfoldable pub argument : Level → Parser Argument
argument g = (by_name <$> named_argument) <|> (positional <$> inline_expression g)

-- arguments in order: the positional ones, the named ones, and whether no positional one followed a named one
abbrev pub Gathered : Type 0
Gathered = List Inline × List Named × Bool

abbrev pub add : Gathered → Argument → Gathered
add g (positional x) = (g.0 ++ x ∷ [], g.1, g.2 && length g.1 == 0)
add g (by_name n) = (g.0, g.1 ++ n ∷ [], g.2)

-- no two of them are equal
abbrev pub differ : List Text → Bool
differ [] = true
differ (t ∷ ts) = not (is_member bytes_eq ts t) && differ ts

abbrev pub names : List Named → List Text
names ns = map (λ n. n.0) ns

-- positional arguments stand before named ones, whose names differ
abbrev pub is_well_formed : Gathered → Bool
is_well_formed g = g.2 && differ (names g.1)

abbrev pub arguments_of : Gathered → Arguments
arguments_of g = arguments (inlines_of g.0) (nameds_of g.1)

-- blank? "," blank?
unfoldable pub comma : Parser (Unit {0})
comma = do
  skip blank
  byte 44
  skip blank

-- Argument blank? "," blank?
unfoldable pub argument_comma : Level → Parser Argument
argument_comma g = do
  a ← argument g
  comma
  pure a

-- Argument?, after those before it
abbrev pub last_argument : Level → Gathered → Parser Gathered
last_argument g before = (add before <$> argument g) <|> pure before

-- argument_list ::= (Argument blank? "," blank?)* Argument?
unfoldable pub argument_list : Level → Parser Gathered
argument_list g = do
  before ← (λ s. many_from add (argument_comma g) (length s) ([], [], true) s)
  last_argument g before

-- CallArguments ::= blank? "(" blank? argument_list blank? ")"
unfoldable pub call_arguments : Level → Parser Arguments
call_arguments g = do
  skip blank
  byte 40
  skip blank
  all ← argument_list g
  provided (is_well_formed all)
  skip blank
  byte 41
  pure (arguments_of all)

-- ---- selects

-- NumberLiteral | Identifier
unfoldable pub key_inside : Parser Key
key_inside = (number_key <$> number_literal) <|> (name_key <$> identifier)

-- VariantKey ::= "[" blank? (NumberLiteral | Identifier) blank? "]"
unfoldable pub variant_key : Parser Key
variant_key = do
  byte 91
  skip blank
  key ← key_inside
  skip blank
  byte 93
  pure key

abbrev pub star : Bool → Parser (Unit {0})
star false = pure tt
star true = byte 42

-- what stands before the pattern of a variant
unfoldable pub variant_head : Bool → Parser Key
variant_head default = do
  line_end
  skip blank
  star default
  key ← variant_key
  skip blank_inline
  pure key

-- Variant ::= line_end blank? VariantKey blank_inline? Pattern
-- DefaultVariant ::= line_end blank? "*" VariantKey blank_inline? Pattern
unfoldable pub variant : Level → Bool → Parser Variant
variant g default = do
  key ← variant_head default
  p ← pattern g.braces
  pure (key, p, default)

-- variant_list ::= Variant* DefaultVariant Variant* line_end
unfoldable pub variant_list : Level → Parser (List Variant)
variant_list g = do
  before ← many (variant g false)
  default ← variant g true
  all ← (λ s. many_from push (variant g false) (length s) (before ++ default ∷ []) s)
  line_end
  pure all

-- a selector is a literal, a variable, a function, or a term by an attribute
abbrev pub is_selector : Inline → Bool
is_selector (string t) = true
is_selector (number t) = true
is_selector (function f a) = true
is_selector (message m a) = false
is_selector (term t no_attribute c) = false
is_selector (term t (attribute a) c) = true
is_selector (variable v) = true
is_selector (nested e) = false

-- blank? "->" blank_inline?
unfoldable pub arrow : Parser (Unit {0})
arrow = do
  skip blank
  byte 45
  byte 62
  skip blank_inline

abbrev pub selector : Level → Parser Inline
selector g = do
  x ← inline_expression g
  provided (is_selector x)
  pure x

-- SelectExpression ::= InlineExpression blank? "->" blank_inline? variant_list
abbrev pub select_expression : Level → Parser Expression
select_expression g = do
  x ← selector g
  arrow
  variants ← variant_list g
  pure (select x (variants_of variants))

-- ---- placeables

-- an attribute of a term is no expression of a placeable
abbrev pub stands_alone : Inline → Bool
stands_alone (term t (attribute a) c) = false
stands_alone (term t no_attribute c) = true
stands_alone (string t) = true
stands_alone (number t) = true
stands_alone (function f a) = true
stands_alone (message m a) = true
stands_alone (variable v) = true
stands_alone (nested e) = true

abbrev pub alone : Inline → Parser Expression
alone x = provided (stands_alone x) >> pure (inline x)

-- SelectExpression | InlineExpression
unfoldable pub expression : Level → Parser Expression
expression g = select_expression g <|> (inline_expression g >>= alone)

-- inline_placeable ::= "{" blank? (SelectExpression | InlineExpression) blank? "}"
unfoldable pub inline_placeable : Level → Parser Expression
inline_placeable g = do
  byte 123
  skip blank
  x ← expression g
  skip blank
  byte 125
  pure x

-- placeables and argument lists, no more than the number of them in one another
unfoldable pub level : ℕ → Level
level zero = record { braces = refuse; brackets = refuse }
level (suc n) = record { braces = inline_placeable (level n); brackets = call_arguments (level n) }
