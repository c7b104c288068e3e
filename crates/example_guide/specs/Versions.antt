-- How versions are shown.
use Rattle.std.specs.Prelude.{[], ◌∷◌, ◌++◌, codes}
use Rattle.std.specs.Fmt.{decimal}
use Rattle.fluent_ast.specs.Tree.{Text}

-- the three numbers with points between them
abbrev pub version_text : Text → Text
version_text (major ∷ minor ∷ patch ∷ []) = decimal major ++ (codes "." ++ (decimal minor ++ (codes "." ++ decimal patch)))
version_text _ = []
