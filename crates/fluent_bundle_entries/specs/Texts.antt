-- Patterns of texts alone.
use Rattle.std.specs.Prelude.{Bool, true, false, IsTrue, Option, None, Some, [], ◌++◌}
use Rattle.fluent_ast.specs.Tree.{Text, Pattern, nothing, more, text, placeable}

-- whether a pattern is one of text elements alone
abbrev pub is_text : Pattern → Bool
is_text nothing = true
is_text (more (text t) rest) = is_text rest
is_text (more (placeable e) rest) = false

abbrev pub IsTextAlone : Pattern → Type 0
IsTextAlone p = IsTrue (is_text p)

-- the text elements of a pattern, one after the other
abbrev pub texts_of : Pattern → Text
texts_of nothing = []
texts_of (more (text t) rest) = t ++ texts_of rest
texts_of (more (placeable e) rest) = texts_of rest

-- the text of a pattern that is one text element alone
abbrev pub sole_text : Pattern → Option Text
sole_text (more (text t) nothing) = Some t
sole_text _ = None
