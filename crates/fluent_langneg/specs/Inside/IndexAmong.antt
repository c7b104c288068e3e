-- An index that may be among others.
use Rattle.std.specs.Prelude.{ℕ, ◌==◌, ◌++◌, if◌then◌else◌, List, [], ◌∷◌}
use Rattle.std.specs.List.{list_any}

-- after the others, unless it stands among them
abbrev pub with_index : List ℕ → ℕ → List ℕ
with_index indices index = if list_any (λ p. p == index) indices then indices else indices ++ index ∷ []
