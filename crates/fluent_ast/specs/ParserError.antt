-- The text of a parser error.
use Rattle.std.specs.Prelude.{ℕ, ◌++◌, codes}
use Rattle.std.specs.Fmt.{decimal}
use Rattle.fluent_ast.specs.Tree.{Text}

-- the byte range of a part that can't be read, its end left out, in decimal
abbrev pub unreadable_text : ℕ → ℕ → Text
unreadable_text start end = codes "unreadable entry at bytes " ++ decimal start ++ codes ".." ++ decimal end
