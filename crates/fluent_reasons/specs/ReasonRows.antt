-- Worked reasons: what can't be read, at which byte reading stops, and what was expected there.
use Rattle.std.proofs.Common.{◌≡◌, ℕ, List, [], ◌∷◌, ◌++◌, map, replicate, refl}
use Rattle.std.specs.Prelude.{codes}
use Rattle.fluent_text.specs.Parser as p
use Rattle.fluent_text.specs.Parser.{Text}
use Rattle.fluent_text.specs.Lexical as l
use Rattle.fluent_syntax.specs.Expressions as b
use Rattle.fluent_reasons.specs.Stopping as t
use Rattle.fluent_reasons.specs.Reasons as r
use Rattle.fluent_reasons.specs.Reasons.{reason}
use Rattle.fluent_reasons.specs.declared.expected.Expected.{Expected}
use Rattle.fluent_reasons.specs.declared.expected.Expected.TheVariants as expected
use Rattle.fluent_reasons.specs.declared.expected.Reason.{Reason}

abbrev Row : Type 0
Row = Text × Reason

abbrev row : Text → ℕ → Expected → Row
row s offset e = (s, record { offset = offset; expected = e })

-- each text has the reason beside it
abbrev HaveReasons : List Row → Type 0
HaveReasons rows = map (λ w. reason w.0) rows ≡ map (λ w. w.1) rows

-- ---- entries: names, equals signs, values and attributes

abbrev entries : List Row
entries =
    -- a name wants an equals sign
    row (codes "hello") 5 expected.EqualsSign ∷
    -- a message without a value and without attributes
    row (codes "hello =") 7 expected.ValueOrAttributes ∷
    -- so after spaces
    row (codes "hello = \nb = 1") 8 expected.ValueOrAttributes ∷
    -- a term wants a value
    row (codes "-term =") 7 expected.TermValue ∷
    -- a term wants a name
    row (codes "- = x") 1 expected.Letter ∷
    -- a tab begins no entry
    row (codes "\ta = 1") 0 expected.EntryStart ∷
    -- nor does a bracket
    row (codes "[Section]") 0 expected.EntryStart ∷
    -- nor do spaces
    row (codes "  a = 1") 0 expected.EntryStart ∷
    -- an attribute that the entry before could not take
    row (codes "  .b\n") 4 expected.EqualsSign ∷
    -- an attribute without a value
    row (codes " .b =\n") 5 expected.Value ∷
    []

entries_rows : HaveReasons entries
unfolding p.many_from p.byte p.run1 l.identifier l.blank_inline l.line_break l.line_end l.blank_line l.blank_block l.blank_turn l.blank b.hex_digit b.hex_digits b.escape t.turns r.number r.quoted_turn r.string r.literal r.name_of_value r.attributed r.key r.variant_key r.next_line r.element r.value r.called r.reference r.term_reference r.any_reference r.inline_expression r.named r.argument r.argument_turn r.argument_list r.call_arguments r.variant r.variant_turn r.variants r.select r.expression r.placeable r.attribute r.attribute_turn r.message r.term r.misplaced r.entry r.level r.reason
entries_rows = refl

-- ---- texts and placeables

abbrev texts : List Row
texts =
    -- a placeable that doesn't end
    row (codes "hello = Hi { $name") 18 expected.ClosingBrace ∷
    -- what follows it begins the next line
    row (codes "hello = Hi { $name\nb = 1") 19 expected.ClosingBrace ∷
    -- a closing brace is no text
    row (codes "a = }") 4 expected.NoClosingBrace ∷
    -- nor is it after some
    row (codes "a = b } c") 6 expected.NoClosingBrace ∷
    -- an empty placeable
    row (codes "a = { }") 6 expected.Expression ∷
    -- a placeable that the entry before could not take
    row (codes "{ $n") 4 expected.ClosingBrace ∷
    -- more than 100 braces in one another
    row (codes "a = " ++ replicate 101 123) 104 expected.FewerLevels ∷
    []

texts_rows : HaveReasons texts
unfolding p.many_from p.byte p.run1 l.identifier l.blank_inline l.line_break l.line_end l.blank_line l.blank_block l.blank_turn l.blank b.hex_digit b.hex_digits b.escape t.turns r.number r.quoted_turn r.string r.literal r.name_of_value r.attributed r.key r.variant_key r.next_line r.element r.value r.called r.reference r.term_reference r.any_reference r.inline_expression r.named r.argument r.argument_turn r.argument_list r.call_arguments r.variant r.variant_turn r.variants r.select r.expression r.placeable r.attribute r.attribute_turn r.message r.term r.misplaced r.entry r.level r.reason
texts_rows = refl

-- ---- strings, numbers and references

abbrev expressions : List Row
expressions =
    -- a string ends on its line
    row (codes "a = { \"x\n\" }") 8 expected.ClosingQuote ∷
    -- or at the end of the text
    row (codes "a = { \"x }") 10 expected.ClosingQuote ∷
    -- an unknown escape
    row (codes "a = { \"\\q\" }") 7 expected.KnownEscape ∷
    -- a short one
    row (codes "a = { \"\\u12\" }") 7 expected.HexadecimalDigits ∷
    -- digits after a point
    row (codes "a = { 1. }") 8 expected.Digit ∷
    -- a variable without a name
    row (codes "a = { $ }") 7 expected.Letter ∷
    -- an attribute without a name
    row (codes "a = { m. }") 8 expected.Letter ∷
    -- a function's name in small letters
    row (codes "a = { foo() }") 6 expected.FunctionName ∷
    -- an attribute of a term
    row (codes "a = { -t.b }") 6 expected.NoAttributePlaceable ∷
    []

expressions_rows : HaveReasons expressions
unfolding p.many_from p.byte p.run1 l.identifier l.blank_inline l.line_break l.line_end l.blank_line l.blank_block l.blank_turn l.blank b.hex_digit b.hex_digits b.escape t.turns r.number r.quoted_turn r.string r.literal r.name_of_value r.attributed r.key r.variant_key r.next_line r.element r.value r.called r.reference r.term_reference r.any_reference r.inline_expression r.named r.argument r.argument_turn r.argument_list r.call_arguments r.variant r.variant_turn r.variants r.select r.expression r.placeable r.attribute r.attribute_turn r.message r.term r.misplaced r.entry r.level r.reason
expressions_rows = refl

-- ---- arguments

abbrev arguments : List Row
arguments =
    -- an argument's name is simple
    row (codes "a = { F(-t: 1) }") 8 expected.ArgumentName ∷
    -- positional arguments stand first
    row (codes "a = { F(b: 1, \"c\") }") 14 expected.NoPositional ∷
    -- the second of two names
    row (codes "a = { F(b: 1, b: 2) }") 14 expected.NewName ∷
    -- an argument's value is a literal
    row (codes "a = { F(b: c) }") 11 expected.Literal ∷
    -- arguments that don't end
    row (codes "a = { F(b }") 10 expected.ClosingParenthesis ∷
    -- a comma before the first
    row (codes "a = { F(, b) }") 8 expected.Expression ∷
    -- lines that begin with a name may be arguments
    row (codes "a = { F(\nb: 1\nc: 2) }") 14 expected.ClosingParenthesis ∷
    []

arguments_rows : HaveReasons arguments
unfolding p.many_from p.byte p.run1 l.identifier l.blank_inline l.line_break l.line_end l.blank_line l.blank_block l.blank_turn l.blank b.hex_digit b.hex_digits b.escape t.turns r.number r.quoted_turn r.string r.literal r.name_of_value r.attributed r.key r.variant_key r.next_line r.element r.value r.called r.reference r.term_reference r.any_reference r.inline_expression r.named r.argument r.argument_turn r.argument_list r.call_arguments r.variant r.variant_turn r.variants r.select r.expression r.placeable r.attribute r.attribute_turn r.message r.term r.misplaced r.entry r.level r.reason
arguments_rows = refl

-- ---- selectors and variants

abbrev selects : List Row
selects =
    -- a message as a selector
    row (codes "a = { m ->\n *[x] y\n }") 6 expected.NoMessageSelector ∷
    -- an attribute of a message as a selector
    row (codes "a = { m.b ->\n *[x] y\n }") 6 expected.NoAttributeSelector ∷
    -- a term as a selector
    row (codes "a = { -t ->\n *[x] y\n }") 6 expected.NoTermSelector ∷
    -- a placeable as a selector
    row (codes "a = { { $n } ->\n *[x] y\n }") 6 expected.SimpleSelector ∷
    -- variants begin on a line of their own
    row (codes "a = { $n -> [x] y }") 12 expected.LineEnd ∷
    -- a select without variants
    row (codes "a = { $n ->\n }") 13 expected.Variant ∷
    -- a select without a default
    row (codes "a = { $n ->\n [x] y\n }") 20 expected.DefaultVariant ∷
    -- the second default
    row (codes "a = { $n ->\n *[x] y\n *[z] w\n }") 21 expected.OneDefault ∷
    -- a variant without a key
    row (codes "a = { $n ->\n *[] y\n }") 15 expected.VariantKey ∷
    -- a key that doesn't end
    row (codes "a = { $n ->\n *[x\n }") 18 expected.ClosingBracket ∷
    -- a star before no key
    row (codes "a = { $n ->\n * x\n }") 14 expected.OpeningBracket ∷
    -- a variant without a value
    row (codes "a = { $n ->\n *[x]\n }") 17 expected.Value ∷
    []

selects_rows : HaveReasons selects
unfolding p.many_from p.byte p.run1 l.identifier l.blank_inline l.line_break l.line_end l.blank_line l.blank_block l.blank_turn l.blank b.hex_digit b.hex_digits b.escape t.turns r.number r.quoted_turn r.string r.literal r.name_of_value r.attributed r.key r.variant_key r.next_line r.element r.value r.called r.reference r.term_reference r.any_reference r.inline_expression r.named r.argument r.argument_turn r.argument_list r.call_arguments r.variant r.variant_turn r.variants r.select r.expression r.placeable r.attribute r.attribute_turn r.message r.term r.misplaced r.entry r.level r.reason
selects_rows = refl
