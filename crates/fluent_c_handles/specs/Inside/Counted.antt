-- How far the lines of a source are counted.
use Rattle.std.specs.Prelude.{◌≡◌}
use Rattle.fluent_ast.specs.Tree.{Text}
use Rattle.fluent_c_handles.specs.Calls.Adding.{line_at}
use Rattle.fluent_c_handles.specs.declared.counted.Counted.{Counted}

-- what is counted is the line of this offset
abbrev pub IsCounted : Text → Counted → Type 0
IsCounted source c = c.line ≡ line_at source c.at
