-- Worked rows: the marks of entries.
use Rattle.std.specs.Prelude.{◌≡◌, List, [], ◌∷◌, length, codes, refl}
use Rattle.fluent_text.specs.Parser.{Text}
use Rattle.fluent_patterns.specs.declared.marks.What.TheVariants.{Attribute, Reference, Select, Variant}
use Rattle.fluent_patterns.specs.declared.marks.Mark.{Mark}
use Rattle.fluent_patterns.specs.Marks.{mark, marks, scan}

-- of an entry that stands alone
abbrev in_all : Text → List Mark
in_all s = marks 0 (length s) s

-- an id and a variable
row_variable : in_all (codes "key = Hi { $name }") ≡ mark Reference 11 ∷ []
unfolding scan
row_variable = refl

-- attributes, one of them behind a blank line
row_attributes : in_all (codes "key = { $a }\n    .title = { m }\n\n  .alt = x") ≡ mark Reference 8 ∷ mark Attribute 17 ∷ mark Reference 28 ∷ mark Attribute 35 ∷ []
unfolding scan
row_attributes = refl

-- a message that has no value
row_no_value : in_all (codes "key =\n    .title = a.b { m.c }") ≡ mark Attribute 10 ∷ mark Reference 25 ∷ []
unfolding scan
row_no_value = refl

-- each kind of reference; names of arguments are none
row_references : in_all (codes "key = { F(m.a, $v, -t.b, name : 1, other:\"x\") }{ -t.c($w) }") ≡ mark Reference 8 ∷ mark Reference 10 ∷ mark Reference 15 ∷ mark Reference 19 ∷ mark Reference 49 ∷ mark Reference 54 ∷ []
unfolding scan
row_references = refl

-- braces, quotes and arrows in string literals
row_strings : in_all (codes "key = { \"{ $a } -> \\\" b\" }{ \"\\\\\" }{ m } \"{ n }\"") ≡ mark Reference 36 ∷ mark Reference 43 ∷ []
unfolding scan
row_strings = refl

-- numbers, below zero too
row_numbers : in_all (codes "key = { 1.5 }{ -1 }{ F(-2.5, 3, least: -1) }") ≡ mark Reference 21 ∷ []
unfolding scan
row_numbers = refl

-- a select comes after its selector, and before its variants
row_select : in_all (codes "key = { $n ->\n    [one] { a }\n   *[other] b\n  }\n    .title = c") ≡ mark Reference 8 ∷ mark Select 6 ∷ mark Variant 18 ∷ mark Reference 26 ∷ mark Variant 33 ∷ mark Attribute 52 ∷ []
unfolding scan
row_select = refl

-- a select in a variant, and one in a brace in a brace
row_nested_selects : in_all (codes "key = { $n ->\n  [0] { F($m) ->\n    *[a] x\n  } y\n  *[1] { { 1->\n    *[b] { z }\n  } }\n}") ≡ mark Reference 8 ∷ mark Select 6 ∷ mark Variant 16 ∷ mark Reference 22 ∷ mark Reference 24 ∷ mark Select 20 ∷ mark Variant 35 ∷ mark Variant 50 ∷ mark Select 57 ∷ mark Variant 67 ∷ mark Reference 74 ∷ []
unfolding scan
row_nested_selects = refl

-- the attribute of a term
row_selector : in_all (codes "-t = { -u.b(x: 1) ->\r\n  *[a-b] [c] *d\r\n  }\r\n  .e = f\r\n") ≡ mark Reference 7 ∷ mark Select 5 ∷ mark Variant 24 ∷ mark Attribute 46 ∷ []
unfolding scan
row_selector = refl

-- what stands in a text is no part
row_text : in_all (codes "key = a.b [c] * $d -e F(g) -> \"h\n    i .j { l } .m") ≡ mark Reference 44 ∷ []
unfolding scan
row_text = refl

-- a comment behind the entry
row_comment : in_all (codes "key = { $a }\n# b .c\n\n# d { e }") ≡ mark Reference 8 ∷ mark Reference 27 ∷ []
unfolding scan
row_comment = refl

-- over more than one line in a brace
row_over_lines : in_all (codes "key = {\n  F(\n  a,\n  name\n  :\n  1\n  )\n}\n.a = b") ≡ mark Reference 10 ∷ mark Reference 15 ∷ mark Attribute 39 ∷ []
unfolding scan
row_over_lines = refl

-- a dash at the end of a name, and before an arrow
row_minus : in_all (codes "key = { a- -> { -b } }") ≡ mark Reference 8 ∷ mark Select 6 ∷ mark Reference 16 ∷ []
unfolding scan
row_minus = refl
