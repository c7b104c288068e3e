-- Why no entry can be read at the start of a text: the byte where reading stops, and what was expected there.
-- The rules are those of Entries, Pieces and Expressions of the reader. Each goes by what stands next, as those of Fluent's reference parser do,
-- so that the first one that looks in vain is the furthest. What is wrong with a whole part, as with a term's attribute that is
-- shown, stands where the part begins.
use Rattle.std.specs.Prelude.{ℕ, zero, suc, ◌-◌, Bool, true, false, not, ◌&&◌, ◌||◌, ◌==◌, List, [], ◌∷◌, length, take, slice_index, Option, Some, None, Ok, Err}
use Rattle.std.specs.Char.{is_ascii_digit}
use Rattle.std.specs.Str.{bytes_eq}
use Rattle.std.specs.Set.{is_member}
use Rattle.fluent_text.specs.Parser.{Text, first, byte, run, run1, run_len}
use Rattle.fluent_text.specs.Lexical as lexical
use Rattle.fluent_text.specs.Lexical.{is_letter, is_digit, is_text, is_quoted, is_identifier_byte, blank_inline, blank_block, blank, line_end}
use Rattle.fluent_syntax.specs.Expressions.{escape, is_function_name}
use Rattle.fluent_reasons.specs.Stopping.{Reading, Reader, ◌>>=◌, ◌>>◌, pure, stop_at, stop, expect, past, pass, over, here, choose, if_so, if_next, some_since, repeat, again, enough, repeated}
use Rattle.fluent_reasons.specs.declared.expected.Expected.{Expected}
use Rattle.fluent_reasons.specs.declared.expected.Expected.TheVariants as expected
use Rattle.fluent_reasons.specs.declared.expected.Reason.{Reason}
use Rattle.fluent_reasons.specs.declared.kind.Kind.{Kind}
use Rattle.fluent_reasons.specs.declared.kind.Kind.TheVariants as kind
use Rattle.fluent_reasons.specs.declared.kind.Seen.{Seen}
use Rattle.fluent_reasons.specs.declared.kind.Seen.TheVariants as seen

-- ---- names and literals

abbrev pub identifier : Reader (Unit {0})
identifier = expect expected.Letter lexical.identifier

abbrev pub digits : Reader (Unit {0})
digits = expect expected.Digit (run1 is_digit)

-- "-"? digits ("." digits)?
unfoldable pub number : Reader (Unit {0})
number = do
  pass (byte 45)
  digits
  if_next 46 (over >> digits) (pure tt)

-- what an escape lacks: after `\u` and `\U` digits
abbrev pub lacks_digits : Bool → Expected
lacks_digits true = expected.HexadecimalDigits
lacks_digits false = expected.KnownEscape

abbrev pub escape_fault : Text → Expected
escape_fault s = lacks_digits (slice_index s 1 == 117 || slice_index s 1 == 85)

abbrev pub any_escape : Reader (Unit {0})
any_escape = λ s. expect (escape_fault s) escape s

-- the text before an escape, and the escape
unfoldable pub quoted_turn : Reader (Option (Unit {0}))
quoted_turn = do
  pass (run is_quoted)
  if_next 92 (any_escape >> again) enough

-- '"' quoted_char* '"'
unfoldable pub string : Reader (Unit {0})
string = do
  over
  repeated quoted_turn
  expect expected.ClosingQuote (byte 34)

abbrev pub begins_number : Text → Bool
begins_number s = is_ascii_digit (first s) || (first s == 45 && is_ascii_digit (slice_index s 1))

-- StringLiteral | NumberLiteral
unfoldable pub literal : Reader (Unit {0})
literal = if_next 34 string (if_so begins_number number (stop expected.Literal))

-- Identifier blank_inline? "=" blank_inline?
unfoldable pub name_of_value : Reader (Unit {0})
name_of_value = do
  identifier
  pass blank_inline
  expect expected.EqualsSign (byte 61)
  pass blank_inline

-- ("." Identifier)?, and what it makes of what stands before it
unfoldable pub attributed : Kind → Kind → Reader Kind
attributed without with = if_next 46 (over >> identifier >> pure with) (pure without)

-- the name that a text begins with
abbrev pub name_at : Text → Text
name_at s = take (run_len is_identifier_byte s) s

-- ---- where an expression may not stand

abbrev pub selector_fault : Kind → Option Expected
selector_fault kind.Message = Some expected.NoMessageSelector
selector_fault kind.MessageAttribute = Some expected.NoAttributeSelector
selector_fault kind.Term = Some expected.NoTermSelector
selector_fault kind.Placeable = Some expected.SimpleSelector
selector_fault kind.TermAttribute = None
selector_fault kind.Literal = None
selector_fault kind.Variable = None
selector_fault kind.Function = None

abbrev pub placeable_fault : Kind → Option Expected
placeable_fault kind.TermAttribute = Some expected.NoAttributePlaceable
placeable_fault kind.Message = None
placeable_fault kind.MessageAttribute = None
placeable_fault kind.Term = None
placeable_fault kind.Placeable = None
placeable_fault kind.Literal = None
placeable_fault kind.Variable = None
placeable_fault kind.Function = None

abbrev pub is_message : Kind → Bool
is_message kind.Message = true
is_message kind.MessageAttribute = false
is_message kind.Term = false
is_message kind.TermAttribute = false
is_message kind.Placeable = false
is_message kind.Literal = false
is_message kind.Variable = false
is_message kind.Function = false

-- no fault of what begins there
abbrev pub without : Text → Option Expected → Reader (Unit {0})
without start None = pure tt
without start (Some e) = stop_at start e

-- ---- the variants that a select has so far

abbrev pub with_variant : Seen → Seen
with_variant seen.NoVariant = seen.Variants
with_variant seen.Variants = seen.Variants
with_variant seen.Default = seen.Default

-- what they lack
abbrev pub list_fault : Seen → Option Expected
list_fault seen.NoVariant = Some expected.Variant
list_fault seen.Variants = Some expected.DefaultVariant
list_fault seen.Default = None

-- why no default may follow them
abbrev pub second_default : Seen → Option Expected
second_default seen.NoVariant = None
second_default seen.Variants = None
second_default seen.Default = Some expected.OneDefault

-- "->"
abbrev pub is_arrow : Text → Bool
is_arrow s = first s == 45 && slice_index s 1 == 62

-- NumberLiteral | Identifier
unfoldable pub key : Reader (Unit {0})
key = if_so (λ s. is_letter (first s)) identifier (if_so (λ s. is_ascii_digit (first s) || first s == 45) number (stop expected.VariantKey))

-- VariantKey blank_inline?
unfoldable pub variant_key : Reader (Unit {0})
variant_key = do
  expect expected.OpeningBracket (byte 91)
  pass blank
  key
  pass blank
  expect expected.ClosingBracket (byte 93)
  pass blank_inline

-- ---- names of arguments

-- what follows an argument's name: ":" blank? (StringLiteral | NumberLiteral)
unfoldable pub named : Text → Reader (Option Text)
named start = over >> pass blank >> literal >> pure (Some (name_at start))

-- the names with that of the argument which begins there, which is another
abbrev pub with_name : List Text → Text → Option Text → Reader (List Text)
with_name names start None = pure names
with_name names start (Some n) = choose (is_member bytes_eq names n) (stop_at start expected.NewName) (pure (n ∷ names))

-- ---- lines

-- a byte that no text below begins with, on its line
abbrev pub begins_no_text : ℕ → Bool
begins_no_text c = ((c == 91 || c == 42) || c == 46) || c == 125

-- a line goes on with a pattern above it by a placeable, or by text after spaces
abbrev pub goes_on : Text → Text → Bool
goes_on line t = first t == 123 || (first line == 32 && (not (length t == 0) && not (begins_no_text (first t))))

-- from the end of a line to where the pattern goes on below, if it does
abbrev pub from_line : Text → Text → Text → Reader (Option (Unit {0}))
from_line s line t = choose (goes_on line t) (λ _. Ok (Some tt, t)) (λ _. Ok (None, s))

unfoldable pub next_line : Reader (Option (Unit {0}))
next_line = λ s. from_line s (past blank_block s) (past blank_inline (past blank_block s)) s

-- What stands in braces or in an argument list, one level deeper, is a parameter.
module _ (enclosed : Reader (Unit {0})) where
  -- ---- patterns

  -- PatternElement, if one is there
  unfoldable pub element : Reader (Option (Unit {0}))
  element =
      if_so (λ s. not (run_len is_text s == 0)) (pass (run is_text) >> again)
      (if_next 123 (enclosed >> again)
      (if_next 125 (stop expected.NoClosingBrace) next_line))

  -- Pattern, which may lack
  abbrev pub pattern : Reader (Unit {0})
  pattern = repeated element

  -- Pattern
  unfoldable pub value : Expected → Reader (Unit {0})
  value e = do
    start ← here
    pattern
    some_since start e

  -- ---- expressions

  -- MessageReference | FunctionReference, which has a bracket after its name
  unfoldable pub called : Text → Reader Kind
  called start = choose (is_function_name (name_at start)) (pass blank >> enclosed >> pure kind.Function) (stop_at start expected.FunctionName)

  unfoldable pub reference : Reader Kind
  reference = do
    start ← here
    identifier
    if_so (λ s. first (past blank s) == 40) (called start) (attributed kind.Message kind.MessageAttribute)

  -- "-" Identifier ("." Identifier)? CallArguments?
  unfoldable pub term_reference : Reader Kind
  term_reference = do
    over
    identifier
    k ← attributed kind.Term kind.TermAttribute
    if_so (λ s. first (past blank s) == 40) (pass blank >> enclosed >> pure k) (pure k)

  -- VariableReference | TermReference | MessageReference | FunctionReference
  unfoldable pub any_reference : Reader Kind
  any_reference =
      if_next 36 (over >> identifier >> pure kind.Variable)
      (if_next 45 term_reference
      (if_so (λ s. is_letter (first s)) reference (stop expected.Expression)))

  -- InlineExpression
  unfoldable pub inline_expression : Reader Kind
  inline_expression =
      if_next 123 (enclosed >> pure kind.Placeable)
      (if_next 34 (string >> pure kind.Literal)
      (if_so begins_number (number >> pure kind.Literal) any_reference))

  -- ---- arguments

  -- Argument blank?, and its name, if it has one; a positional one stands before all names
  unfoldable pub argument : Bool → Reader (Option Text)
  argument after_names = do
    start ← here
    k ← inline_expression
    pass blank
    if_next 58 (choose (is_message k) (named start) (stop_at start expected.ArgumentName))
        (choose after_names (stop_at start expected.NoPositional) (pure None))

  -- an argument after some that have these names, and a comma, if one is there
  unfoldable pub argument_turn : List Text → Reader (Option (List Text))
  argument_turn names = do
    start ← here
    n ← argument (not (length names == 0))
    all ← with_name names start n
    pass blank
    if_next 44 (over >> pass blank >> pure (Some all)) enough

  -- argument_list, up to its bracket
  unfoldable pub argument_list : Reader (Unit {0})
  argument_list = repeat (λ names. if_next 41 enough (argument_turn names)) [] >> pure tt

  -- "(" blank? argument_list ")"
  unfoldable pub call_arguments : Reader (Unit {0})
  call_arguments = do
    over
    pass blank
    argument_list
    expect expected.ClosingParenthesis (byte 41)

  -- ---- selects

  -- VariantKey blank_inline? Pattern
  unfoldable pub variant : Reader (Unit {0})
  variant = variant_key >> value expected.Value

  -- blank? (Variant | DefaultVariant), if one is there
  unfoldable pub variant_turn : Seen → Reader (Option Seen)
  variant_turn before = do
    start ← pass blank >> here
    if_next 42 (without start (second_default before) >> over >> variant >> pure (Some seen.Default))
        (if_next 91 (variant >> pure (Some (with_variant before))) enough)

  -- line_end variant_list blank?
  unfoldable pub variants : Reader (Unit {0})
  variants = do
    expect expected.LineEnd line_end
    all ← repeat variant_turn seen.NoVariant
    end ← here
    without end (list_fault all)

  -- "->" blank_inline? variant_list, after a selector that begins there
  unfoldable pub select : Text → Kind → Reader (Unit {0})
  select start k = do
    without start (selector_fault k)
    over >> over
    pass blank_inline
    variants

  -- (SelectExpression | InlineExpression) blank?
  unfoldable pub expression : Reader (Unit {0})
  expression = do
    start ← here
    k ← inline_expression
    pass blank
    if_so is_arrow (select start k) (without start (placeable_fault k))

  -- "{" blank? (SelectExpression | InlineExpression) blank? "}"
  unfoldable pub placeable : Reader (Unit {0})
  placeable = do
    over
    pass blank
    expression
    pass blank
    expect expected.ClosingBrace (byte 125)

  -- ---- entries

  -- "." Identifier blank_inline? "=" blank_inline? Pattern
  unfoldable pub attribute : Reader (Unit {0})
  attribute = do
    over
    name_of_value
    value expected.Value

  -- line_end blank? Attribute, if one is there
  unfoldable pub attribute_turn : Reader (Option (Unit {0}))
  attribute_turn = if_so (λ s. first (past blank s) == 46) (pass blank >> attribute >> again) enough

  abbrev pub attributes : Reader (Unit {0})
  attributes = repeated attribute_turn

  unfoldable pub message : Reader (Unit {0})
  message = do
    name_of_value
    start ← here
    pattern
    attributes
    some_since start expected.ValueOrAttributes

  unfoldable pub term : Reader (Unit {0})
  term = do
    over
    name_of_value
    value expected.TermValue
    attributes

  -- What begins no entry. It may be an attribute or a placeable that the entry before could not go on with.
  unfoldable pub misplaced : Reader (Unit {0})
  misplaced = do
    start ← here
    pass blank_inline
    if_next 46 attribute (if_next 123 enclosed (pure tt))
    stop_at start expected.EntryStart

  unfoldable pub entry : Reader (Unit {0})
  entry = if_so (λ s. is_letter (first s)) message (if_next 45 term misplaced)

  -- what stands in braces, else an argument list
  abbrev pub braced : Reader (Unit {0})
  braced = if_next 123 placeable call_arguments

-- what stands in braces or in an argument list, with no more than so many in one another
unfoldable pub level : ℕ → Reader (Unit {0})
level zero = stop expected.FewerLevels
level (suc n) = braced (level n)

-- ---- the reason

abbrev pub reason_of : Text → Reading (Unit {0}) → Reason
reason_of s (Ok p) = record { offset = 0; expected = expected.EntryStart }
reason_of s (Err e) = record { offset = length s - length e.0; expected = e.1 }

-- why no entry can be read at the start of a text; where one can, none is expected to be
unfoldable pub reason : Text → Reason
reason s = reason_of s (entry (level 100) s)
