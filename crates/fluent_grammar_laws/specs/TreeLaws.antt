-- What holds of every tree that is read.
use Rattle.std.specs.Prelude.{All}
use Rattle.fluent_ast.specs.Tree.{Text}
use Rattle.fluent_syntax.specs.Chunks.{entries}
use Rattle.fluent_syntax.specs.WellFormed.{IsWellFormedEntry}

-- every entry is well-formed, no deeper than 100, and has no empty text
abbrev pub AllWellFormed : Text → Type 0
AllWellFormed source = All IsWellFormedEntry (entries source)
