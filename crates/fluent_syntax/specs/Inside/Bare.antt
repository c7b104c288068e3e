-- A reference that has neither an attribute nor arguments, and a placeable that holds it alone.
use Rattle.std.specs.Prelude.{◌≡◌, ℕ, suc, List, true, Some, None}
use Rattle.fluent_ast.specs.Tree.{Expression, Inline}
use Rattle.fluent_syntax.specs.Expressions.{Level, level, inline_expression, stands_alone}

-- x stands at the start of s and r after it, where no arguments follow; it may stand alone between braces
pub record IsBare (s : List ℕ) (x : Inline) (r : List ℕ) : Type 0 where
  pub reads : (g : Level) → g.brackets r ≡ None → inline_expression g s ≡ Some (x, r)
  pub stands : stands_alone x ≡ true

-- x stands between braces at the start of s and r after them, at whatever depth
abbrev pub IsBarePlaceable : List ℕ → Expression → List ℕ → Type 0
IsBarePlaceable s x r = (depth : ℕ) → (level (suc depth)).braces s ≡ Some (x, r)
