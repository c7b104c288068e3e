-- What is read of files, and what is said of byte order marks.
use Rattle.std.specs.Prelude.{◌≡◌, Bool, List, [], ◌∷◌, ◌++◌, flat_map, codes, String, string_bytes, if◌then◌else◌}
use Rattle.std.proofs.Common.{Global}
use Rattle.fluent_ast.specs.Tree.{Text}

-- What is read: the name of a file, its text, and whether that stood after a mark.
pub record Read : Type 0 where
  pub name : Text
  pub text : Text
  pub had_mark : Bool

-- what is said of a mark, and of all marks
abbrev pub mark_line : Read → Text
mark_line read =
    if read.had_mark
    then (codes "fluent: warning: " ++ read.name) ++ (codes ": a byte order mark was taken off" ++ 10 ∷ [])
    else []

abbrev pub mark_lines : List Read → Text
mark_lines reads = flat_map mark_line reads

-- a text was added to another
abbrev pub Adds : Text → String Global → String Global → Type 0
Adds text old new = string_bytes new ≡ string_bytes old ++ text
