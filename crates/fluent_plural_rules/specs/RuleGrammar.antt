-- Plural rule texts, a parser for each line of the grammar (after Unicode TR35, Part 3, Plural rules syntax).
use Rattle.std.specs.Prelude.{ℕ, ◌+◌, ◌^◌, Bool, true, false, not, ◌&&◌, ◌||◌, ◌==◌, nat_lt, is_some, if◌then◌else◌, codes, List, [], ◌∷◌, length, Option, Some, None, Result, Ok, Err}
use Rattle.std.specs.Char.{is_ascii_alphabetic}
use Rattle.std.specs.Str.{bytes_eq}
use Rattle.std.specs.Str.Parse.{digits_value}
use Rattle.fluent_text.specs.Parser.{Text, Read, Parser, ◌>>=◌, ◌>>◌, ◌<|>◌, pure, refuse, ignore, optional, skip, many_from, push, byte, run_len, run, run1}
use Rattle.fluent_text.specs.Lexical.{is_digit, at_end}
use Rattle.fluent_intl.specs.declared.plurals.PluralCategory.{PluralCategory}
use Rattle.fluent_intl.specs.declared.plurals.PluralCategory.TheVariants.{ZERO, ONE, TWO, FEW, MANY, OTHER}
use Rattle.fluent_plural_rules.specs.declared.rule_texts.tree.Operand.{Operand}
use Rattle.fluent_plural_rules.specs.declared.rule_texts.tree.Operand.TheVariants.{N, I, F, T, V, W, C, E}
use Rattle.fluent_plural_rules.specs.declared.rule_texts.tree.Range.{Range}
use Rattle.fluent_plural_rules.specs.RuleTree.{Relation, relation_of, range_of, Condition, Rule, rule_of}

-- ---- parts

-- a space, a tab or a CR
abbrev pub is_blank : ℕ → ℕ → Bool
is_blank c next = (c == 32 || c == 9) || c == 13

abbrev pub is_letter : ℕ → ℕ → Bool
is_letter c next = is_ascii_alphabetic c

-- a byte that ends no rule: all but `;` and LF
abbrev pub is_of_line : ℕ → ℕ → Bool
is_of_line c next = not (c == 59) && not (c == 10)

-- spaces, tabs and CR, which may stand before each part
abbrev pub blanks : Parser (Unit {0})
blanks = ignore (run is_blank)

-- a part of one byte, or the first byte of one
unfoldable pub symbol : ℕ → Parser (Unit {0})
symbol c = blanks >> byte c

-- a run of letters
unfoldable pub word : Parser Text
word = blanks >> run1 is_letter

-- a run of digits
unfoldable pub digits : Parser Text
digits = blanks >> run1 is_digit

-- what was found, if it was
abbrev pub given : {A : Type 0} → Option A → Parser A
given None = refuse
given (Some x) = pure x

-- nothing is taken, and what follows is read where this holds
abbrev pub provided : Bool → Parser (Unit {0})
provided true = pure tt
provided false = refuse

-- this word and no other
unfoldable pub named : Text → Parser (Unit {0})
named name = do
  w ← word
  provided (bytes_eq w name)

-- the parts that come next, after those before them
abbrev pub more : {A : Type 0} → Parser A → List A → Parser (List A)
more p found = λ s. many_from push p (length s) found s

-- ---- values

-- value ::= [0-9]+, which is 18446744073709551615 at most
unfoldable pub value : Parser ℕ
value = do
  ds ← digits
  provided (nat_lt (digits_value 10 ds) (2 ^ 64))
  pure (digits_value 10 ds)

-- ".." value
unfoldable pub range_end : Parser ℕ
range_end = do
  symbol 46
  byte 46
  value

-- range ::= value (".." value)?
unfoldable pub range : Parser Range
range = do
  first ← value
  last ← (range_end <|> pure first)
  pure (range_of first last)

-- "," range
unfoldable pub next_range : Parser Range
next_range = do
  symbol 44
  range

-- range_list ::= range ("," range)*
unfoldable pub range_list : Parser (List Range)
range_list = do
  first ← range
  more next_range (first ∷ [])

-- ---- relations

abbrev pub operand_named : Text → Option Operand
operand_named w =
    if bytes_eq w (codes "n") then Some N
    else (if bytes_eq w (codes "i") then Some I
    else (if bytes_eq w (codes "f") then Some F
    else (if bytes_eq w (codes "t") then Some T
    else (if bytes_eq w (codes "v") then Some V
    else (if bytes_eq w (codes "w") then Some W
    else (if bytes_eq w (codes "c") then Some C
    else (if bytes_eq w (codes "e") then Some E else None)))))))

-- operand ::= "n" | "i" | "f" | "t" | "v" | "w" | "c" | "e"
unfoldable pub operand : Parser Operand
operand = do
  w ← word
  given (operand_named w)

-- "%" value, which is not 0
unfoldable pub divisor : Parser ℕ
divisor = do
  symbol 37
  d ← value
  provided (not (d == 0))
  pure d

-- "!="
unfoldable pub unequal : Parser (Unit {0})
unequal = symbol 33 >> byte 61

-- "=" | "!="
unfoldable pub comparison : Parser Bool
comparison = (symbol 61 >> pure true) <|> (unequal >> pure false)

-- relation ::= operand ("%" value)? ("=" | "!=") range_list
unfoldable pub relation : Parser Relation
relation = do
  x ← operand
  d ← optional divisor
  equal ← comparison
  ranges ← range_list
  pure (relation_of x d equal ranges)

-- ---- conditions

-- "and" relation
unfoldable pub and_relation : Parser Relation
and_relation = named (codes "and") >> relation

-- and_group ::= relation ("and" relation)*
unfoldable pub and_group : Parser (List Relation)
and_group = do
  first ← relation
  more and_relation (first ∷ [])

-- "or" and_group
unfoldable pub or_group : Parser (List Relation)
or_group = named (codes "or") >> and_group

-- condition ::= and_group ("or" and_group)*
unfoldable pub condition : Parser Condition
condition = do
  first ← and_group
  more or_group (first ∷ [])

-- ---- rules

abbrev pub category_named : Text → Option PluralCategory
category_named w =
    if bytes_eq w (codes "zero") then Some ZERO
    else (if bytes_eq w (codes "one") then Some ONE
    else (if bytes_eq w (codes "two") then Some TWO
    else (if bytes_eq w (codes "few") then Some FEW
    else (if bytes_eq w (codes "many") then Some MANY
    else (if bytes_eq w (codes "other") then Some OTHER else None)))))

-- keyword ::= "zero" | "one" | "two" | "few" | "many" | "other"
unfoldable pub keyword : Parser PluralCategory
keyword = do
  w ← word
  given (category_named w)

-- samples ::= "@" and everything up to the next ";" or LF
unfoldable pub samples : Parser (Unit {0})
samples = symbol 64 >> ignore (run is_of_line)

-- a condition may be missing only after `other`
abbrev pub may_lack : PluralCategory → Bool
may_lack OTHER = true
may_lack ZERO = false
may_lack ONE = false
may_lack TWO = false
may_lack FEW = false
may_lack MANY = false

-- rule ::= keyword ":" condition? samples?
unfoldable pub rule : Parser Rule
rule = do
  category ← keyword
  symbol 58
  when ← optional condition
  provided (is_some when || may_lack category)
  skip samples
  pure (rule_of category when)

-- rule?, with nothing after it
unfoldable pub line : Parser (Option Rule)
line = do
  r ← optional rule
  blanks
  at_end
  pure r

-- ---- texts

abbrev pub prepended : ℕ → List Text → List Text
prepended c [] = (c ∷ []) ∷ []
prepended c (l ∷ ls) = (c ∷ l) ∷ ls

-- what stands between the `;` and LF of a text: no rule holds one of these
abbrev pub lines : Text → List Text
lines [] = [] ∷ []
lines (c ∷ cs) = if is_of_line c 0 then prepended c (lines cs) else [] ∷ lines cs

-- one line before the others
abbrev pub before : Option Rule → Result (List Rule) ℕ → Result (List Rule) ℕ
before r (Err at) = Err at
before None (Ok rules) = Ok rules
before (Some r) (Ok rules) = Ok (r ∷ rules)

-- a line at this place, and what the others give
abbrev pub with_line : ℕ → Text → Read (Option Rule) → Result (List Rule) ℕ → Result (List Rule) ℕ
with_line at l None others = Err (at + run_len is_blank l)
with_line at l (Some p) others = before p.0 others

-- the rules of lines, the first of which begins at this place, or where the first that can't be read begins, without its leading blanks
unfoldable pub rules_from : ℕ → List Text → Result (List Rule) ℕ
rules_from at [] = Ok []
rules_from at (l ∷ ls) = with_line at l (line l) (rules_from (at + length l + 1) ls)

-- rules ::= rule? ((";" | LF) rule?)*
-- The rules of a text in the grammar, and for any other text the place of its first rule that can't be read.
unfoldable pub rules : Text → Result (List Rule) ℕ
rules s = rules_from 0 (lines s)
