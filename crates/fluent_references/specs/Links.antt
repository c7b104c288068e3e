-- Links: the numbers of the ids that a part of a pattern refers to, in the order of the tree.
use Rattle.std.specs.Prelude.{◌≡◌, ℕ, List, [], ◌∷◌, Option, Some}
use Rattle.fluent_ast.specs.Tree.{Text}
use Rattle.fluent_ast.specs.References.{Reference, a_message, a_term, a_function}

abbrev pub id_of : Reference → Text
id_of (a_message id) = id
id_of (a_term id) = id
id_of (a_function id) = id

-- the numbers of the ids that come next, as many as are known; beyond them ids are looked up
abbrev pub Links : Type 0
Links = List ℕ

abbrev pub next : Links → Links
next [] = []
next (l ∷ ls) = ls

-- the links after these references
abbrev pub past : List Reference → Links → Links
past [] p = p
past (r ∷ rs) p = past rs (next p)

-- links whose prefix are the numbers of these references, as far as there are links
abbrev pub IsBefore : (Text → Option ℕ) → List Reference → Links → Type 0
IsBefore number rs [] = Unit {0}
IsBefore number [] (l ∷ ls) = Unit {0}
IsBefore number (r ∷ rs) (l ∷ ls) = (number (id_of r) ≡ Some l) × IsBefore number rs ls

-- every number that an id had is still its own
abbrev pub KeepsNumbers : (Text → Option ℕ) → (Text → Option ℕ) → Type 0
KeepsNumbers before after = (id : Text) (n : ℕ) → before id ≡ Some n → after id ≡ Some n
