-- What a writer took, and how a count rises.
use Rattle.std.specs.Prelude.{◌≡◌, ◌≢◌, ℕ, ◌+◌, ◌-◌, ◌^◌, min, List, [], ◌∷◌, ◌++◌, Bool, true, false, if◌then◌else◌, suc, zero, Option, Result, Ok, Err}
use Rattle.std.specs.Io.KnownBytes.{Appends}
use Rattle.fluent_text.specs.declared.counting.WriteFault.{WriteFault}
use Rattle.fluent_text.specs.declared.counting.WriteFault.TheVariants.{Memory, Writer, Zero}

-- a count goes up by one, and stands still at the largest number of 64 bits
abbrev pub raised : ℕ → ℕ
raised n = min (n + 1) (2 ^ 64 - 1)

-- it does where this is so
abbrev pub raised_if : Bool → ℕ → ℕ
raised_if b n = if b then raised n else n

-- it does where this isn't so
abbrev pub raised_unless : Bool → ℕ → ℕ
raised_unless b n = if b then n else raised n

-- a write of a nonempty piece that took no byte
abbrev pub took_nothing : {E : Type 0} → Result ℕ E → List ℕ → Bool
took_nothing (Ok zero) (b ∷ bs) = true
took_nothing (Ok zero) [] = false
took_nothing (Ok (suc n)) piece = false
took_nothing (Err e) piece = false

-- of a piece some prefix was taken
abbrev pub TookPrefix : Option (List ℕ) → Option (List ℕ) → List ℕ → Type 0
TookPrefix old new piece = (prefix : List ℕ) × (rest : List ℕ) × (piece ≡ prefix ++ rest) × Appends old new prefix

-- of a piece some was left, after a prefix that was taken
abbrev pub LeftSome : Option (List ℕ) → Option (List ℕ) → List ℕ → Type 0
LeftSome old new piece = (prefix : List ℕ) × (rest : List ℕ) × (rest ≢ []) × (piece ≡ prefix ++ rest) × Appends old new prefix

-- if there was a fault it was the writer's
abbrev pub ByWriter : {T : Type 0} → Result T WriteFault → Type 0
ByWriter (Ok x) = Unit {0}
ByWriter (Err (Writer e)) = Unit {0}
ByWriter (Err Zero) = Unit {0}
ByWriter (Err Memory) = ⊥
