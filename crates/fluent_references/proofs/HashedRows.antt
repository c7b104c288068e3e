-- Worked contents that feed different bytes: each two would feed the same if one of their parts weren't told.
use Prim.Native.String.{String}
use Rattle.std.proofs.Common.{◌≡◌, ℕ, List, [], ◌∷◌, true, false, refl, sym, ◌∙◌}
use Rattle.std.specs.Prelude.{codes, nat_eq}
use Rattle.std.specs.List.{concat}
use Rattle.std.specs.Cmp.Lexicographic.{pointwise, bytes_decides}
use Rattle.std.proofs.lemmas.Bool.{false≢true}
use Rattle.fluent_ast.specs.Tree.{Element, Inline, Variant, name_key, number_key, no_attribute, attribute, text, placeable, inline, select, string, number, function, message, term, variable, nested, no_call, call, arguments, pattern_of, variants_of, inlines_of, nameds_of}
use Rattle.fluent_references.specs.Inside.Hashed.{hashed}

-- all bytes that a pattern of these elements feeds, whatever the writes
abbrev fed : List Element → List ℕ
fed es = concat (hashed (pattern_of es))

-- they aren't the same
abbrev AreFedApart : List Element → List Element → Type 0
AreFedApart xs ys = pointwise nat_eq (fed xs) (fed ys) ≡ false

differ : (xs ys : List Element) → AreFedApart xs ys → fed xs ≡ fed ys → ⊥
differ xs ys apart same = false≢true (sym apart ∙ (bytes_decides (fed xs) (fed ys)).1 same)

abbrev say : String → Element
say s = text (codes s)

abbrev put : Inline → Element
put x = placeable (inline x)

abbrev one : Inline → List Element
one x = put x ∷ []

abbrev called : List Inline → Inline
called xs = function (codes "F") (arguments (inlines_of xs) (nameds_of []))

abbrev choose : List Variant → Element
choose vs = placeable (select (variable (codes "v")) (variants_of vs))

-- `ab` and `c`, `a` and `bc`: where a text ends
pub row_texts : AreFedApart (say "ab" ∷ say "c" ∷ []) (say "a" ∷ say "bc" ∷ [])
row_texts = refl

-- `{ "1" }` and `{ 1 }`
pub row_literals : AreFedApart (one (string (codes "1"))) (one (number (codes "1")))
row_literals = refl

-- `{ a }` and `{ $a }`
pub row_variable : AreFedApart (one (message (codes "a") no_attribute)) (one (variable (codes "a")))
row_variable = refl

-- `{ a }` and `{ -a }`
pub row_term : AreFedApart (one (message (codes "a") no_attribute)) (one (term (codes "a") no_attribute no_call))
row_term = refl

-- `{ a }` and `{ a.b }`
pub row_attribute : AreFedApart (one (message (codes "a") no_attribute)) (one (message (codes "a") (attribute (codes "b"))))
row_attribute = refl

-- `{ -a }` and `{ -a() }`
pub row_call : AreFedApart (one (term (codes "a") no_attribute no_call)) (one (term (codes "a") no_attribute (call (arguments (inlines_of []) (nameds_of [])))))
row_call = refl

-- `{ F("a", 1) }` and `{ F(a: 1) }`
pub row_named : AreFedApart (one (called (string (codes "a") ∷ number (codes "1") ∷ []))) (one (function (codes "F") (arguments (inlines_of []) (nameds_of ((codes "a", number (codes "1")) ∷ [])))))
row_named = refl

-- `{ F(G(), 1) }` and `{ F(G(1)) }`: where arguments end
pub row_arguments : AreFedApart (one (called (called [] ∷ number (codes "1") ∷ []))) (one (called (called (number (codes "1") ∷ []) ∷ [])))
row_arguments = refl

-- `{ $v }` and `{ { $v } }`
pub row_nested : AreFedApart (one (variable (codes "v"))) (one (nested (inline (variable (codes "v")))))
row_nested = refl

-- the key `1` as a name and as a number
pub row_key : AreFedApart (choose ((name_key (codes "1"), pattern_of [], true) ∷ []) ∷ []) (choose ((number_key (codes "1"), pattern_of [], true) ∷ []) ∷ [])
row_key = refl

-- whether a variant is the default
pub row_default : AreFedApart (choose ((name_key (codes "k"), pattern_of [], true) ∷ []) ∷ []) (choose ((name_key (codes "k"), pattern_of [], false) ∷ []) ∷ [])
row_default = refl

-- `x` within a variant and after its select: where a value ends, and where variants end
pub row_select : AreFedApart (choose ((name_key (codes "k"), pattern_of (say "x" ∷ []), true) ∷ []) ∷ []) (choose ((name_key (codes "k"), pattern_of [], true) ∷ []) ∷ say "x" ∷ [])
row_select = refl
