-- How records are written as bytes.
use Rattle.std.specs.Prelude.{◌<◌, ◌^◌, ℕ, List, [], ◌∷◌, ◌++◌, length}
use Rattle.std.specs.List.{All}
use Rattle.std.specs.Int.{w32, to_le_bytes}
use Rattle.fluent_answers.specs.Kinds.{byte_of}
use Rattle.fluent_answers.specs.Records.{Record, StandBefore}

abbrev pub sized_bytes : List ℕ → List ℕ
sized_bytes t = to_le_bytes w32 (length t) ++ t

abbrev pub encoded : Record → List ℕ
encoded r = byte_of r.kind ∷ sized_bytes r.name ++ sized_bytes r.value

abbrev pub all_encoded : List Record → List ℕ
all_encoded [] = []
all_encoded (r ∷ all) = encoded r ++ all_encoded all

-- its texts are no longer than four bytes can say
abbrev pub Fits : Record → Type 0
Fits r = (length r.name < 2 ^ 32) × (length r.value < 2 ^ 32)

-- What is written so is read as what was written.
abbrev pub ReadsWritten : Type 0
ReadsWritten = (all : List Record) (rest : List ℕ) → All Fits all → StandBefore all (all_encoded all ++ rest) rest
