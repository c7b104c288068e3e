-- What the id with a number names, and what it names when its slot is filled.
use Rattle.std.specs.Prelude.{◌≡◌, ℕ, Option, Some, if◌then◌else◌}
use Rattle.std.specs.Str.{bytes_eq}
use Rattle.fluent_ast.specs.Tree.{Text}
use Rattle.fluent_references.specs.Slots.{slots, number, named}
use Rattle.fluent_references.specs.declared.slots.Slots.{Slots}

-- an id with this number names this
abbrev pub IsNamedBy : {X : Type 0} → Slots X → ℕ → Option X → Type 0
IsNamedBy s n x = (id : Text) → number (slots s) id ≡ Some n → x ≡ named id (slots s)

-- an id with this number names this, and every other what it named
abbrev pub Fills : {X : Type 0} → Slots X → Slots X → ℕ → Option X → Type 0
Fills s s' n x = (id : Text) → number (slots s) id ≡ Some n → (q : Text) → named q (slots s') ≡ (if bytes_eq id q then x else named q (slots s))
