-- Bytes of a text with their lines and columns.
use Rattle.std.specs.Prelude.{◌≡◌, ◌+◌, ◌≤◌, length, take}
use Rattle.fluent_ast.specs.Tree.{Text}
use Rattle.fluent_places.specs.Columns.{column_after, line_after}
use Rattle.fluent_sources.specs.declared.lines.Mark.{Mark}

-- a mark stands in a text, and its line and its column are those of its byte
pub record IsMark (text : Text) (mark : Mark) : Type 0 where
  pub within : mark.at ≤ length text
  pub line : mark.line ≡ line_after (take mark.at text)
  pub column : mark.column ≡ column_after (take mark.at text)
  pub lines_fit : mark.line ≤ mark.at + 1
  pub columns_fit : mark.column ≤ mark.at + 1
