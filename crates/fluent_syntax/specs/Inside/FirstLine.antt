-- The first line of a pattern, and patterns of one line.
use Rattle.std.specs.Prelude.{◌≡◌, ℕ, true, ◌==◌, List, [], ◌∷◌, ◌++◌, Some, Result, IfOk, Vec}
use Rattle.std.specs.declared.alloc.AllocError.{AllocError}
use Rattle.std.specs.declared.alloc.Global.{Global}
use Rattle.fluent_text.specs.Lexical.{is_text}
use Rattle.fluent_text.specs.Parser.{first, run}
use Rattle.fluent_ast.specs.Tree.{Text, pattern_of, placeable}
use Rattle.fluent_ast.specs.View.{element_view, expression_view}
use Rattle.fluent_ast.specs.declared.ast.Expression.{Expression}
use Rattle.fluent_ast.specs.declared.ast.PatternElement.{PatternElement}
use Rattle.fluent_syntax.specs.Expressions.{level}
use Rattle.fluent_syntax.specs.Layout.{trim_spaces, unless_empty}
use Rattle.fluent_syntax.specs.Pieces.{pattern}
use Rattle.fluent_syntax.specs.Inside.Progress.{InLine, IsFirstLine}
use Rattle.fluent_syntax.specs.Inside.Reading.{all}
use Rattle.fluent_syntax.specs.declared.parser.first_line.Line.{Line}

-- the text of a line, with this after it, is a whole pattern, but for the spaces at its end
abbrev pub IsPattern : Text → List ℕ → Type 0
IsPattern line rest = (s : List ℕ) → run is_text s ≡ Some (line, rest)
    → (depth : ℕ) → pattern (level depth).braces s ≡ Some (pattern_of (unless_empty (trim_spaces line)), rest)

-- a text, unless it is empty, and a placeable stand after what was there
abbrev pub AppendsBoth : Vec PatternElement Global → Vec PatternElement Global → Text → Expression → Type 0
AppendsBoth old new t x = all element_view new ≡ (all element_view old ++ unless_empty t) ++ placeable (expression_view x) ∷ []

-- where a first line begins with this text, maybe an empty one, and goes on with a brace at s, these are its elements
abbrev pub EndsFirstLine : ℕ → Text → List ℕ → Vec PatternElement Global → Result Line AllocError → Type 0
EndsFirstLine depth before s found result = (whole : List ℕ) → InLine depth whole (unless_empty before) s
    → (first s == 123) ≡ true → IfOk result (λ line. IsFirstLine depth whole (all element_view found) line)
