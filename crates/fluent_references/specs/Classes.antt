-- Classes: the numbers of the contents that are stored.
use Rattle.std.specs.Prelude.{◌≡◌, ℕ, List, [], ◌∷◌, ◌++◌, slice_get, Some, if◌then◌else◌}
use Rattle.std.specs.List.{list_any}
use Rattle.fluent_ast.specs.Tree.{Pattern, is_yes, pattern_same}

-- no content stands twice
abbrev pub AreDistinct : List Pattern → Type 0
AreDistinct table = (i j : ℕ) (p : Pattern) → slice_get table i ≡ Some p → slice_get table j ≡ Some p → i ≡ j

-- a class is the number of a content
abbrev pub HasClass : List Pattern → ℕ → Pattern → Type 0
HasClass table c p = slice_get table c ≡ Some p

-- every class that a content had is still its own
abbrev pub Grows : List Pattern → List Pattern → Type 0
Grows before after = (c : ℕ) (p : Pattern) → HasClass before c p → HasClass after c p

-- with a content that may be new, after the others
abbrev pub with_class : Pattern → List Pattern → List Pattern
with_class p table = if list_any (λ q. is_yes (pattern_same p q)) table then table else table ++ p ∷ []
