-- An item that is put in at an index, where there was memory for it.
use Rattle.std.specs.Prelude.{if◌then◌else◌, ℕ, Bool, List}
use Rattle.std.specs.List.{insert}

abbrev pub inserted : {X : Type 0} → Bool → List X → ℕ → X → List X
inserted is_ok items at item = if is_ok then insert items at item else items
