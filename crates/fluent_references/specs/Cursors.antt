-- What a cursor sees of the links.
use Rattle.std.specs.Prelude.{◌≡◌, ℕ, List, [], ◌∷◌, Option, Some, None}
use Rattle.fluent_ast.specs.References.{Reference}
use Rattle.fluent_references.specs.Links.{Links, past}
use Rattle.fluent_references.specs.declared.cursor.Cursor.{Cursor}

-- the links from a cursor on
abbrev pub seen : Cursor → Links
seen p = p.links.now

-- the number of the next reference, where it is known
abbrev pub first_of : Links → Option ℕ
first_of [] = None
first_of (l ∷ ls) = Some l

-- these links, without those of the references
abbrev pub Passes : List ℕ → List ℕ → List Reference → Type 0
Passes before after rs = after ≡ past rs before
