-- How an answer of the code stands to what the grammar gives.
use Rattle.std.specs.Prelude.{ℕ, List, Option, Some, None}
use Rattle.std.specs.Borrow.{Bor}
use Rattle.fluent_text.specs.Parser.{Read}

-- what was found, by its content, and the rest without where it lies in memory
abbrev pub found : {A B : Type 0} → (A → B) → Option (A × Bor (List ℕ)) → Read B
found view None = None
found view (Some p) = Some (view p.0, p.1.now)

-- the same of a part that has no value
abbrev pub passed : Option (Bor (List ℕ)) → Read (Unit {0})
passed None = None
passed (Some s) = Some (tt, s.now)
