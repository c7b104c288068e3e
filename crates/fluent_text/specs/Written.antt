-- What a counting writer took of a piece, from what it holds before and after.
use Rattle.std.specs.Prelude.{ℕ, List, Option, Result}
use Rattle.std.specs.Io.KnownBytes.{Appends, WriteAppends}
use Rattle.fluent_text.specs.Taken.{LeftSome, TookPrefix}
use Rattle.fluent_text.specs.Writer.{writer_in}
use Rattle.fluent_text.specs.declared.counting.Counting.{Counting}

-- all of it
abbrev pub WroteAll : {W : Type 0} → (W → Option (List ℕ)) → Counting W → Counting W → List ℕ → Type 0
WroteAll contents w w' piece = Appends (contents (writer_in w)) (contents (writer_in w')) piece

-- some prefix
abbrev pub WrotePrefix : {W : Type 0} → (W → Option (List ℕ)) → Counting W → Counting W → List ℕ → Type 0
WrotePrefix contents w w' piece = TookPrefix (contents (writer_in w)) (contents (writer_in w')) piece

-- some prefix, after which some was left
abbrev pub WroteLess : {W : Type 0} → (W → Option (List ℕ)) → Counting W → Counting W → List ℕ → Type 0
WroteLess contents w w' piece = LeftSome (contents (writer_in w)) (contents (writer_in w')) piece

-- as many bytes as the answer of a single write says, none where it failed
abbrev pub WroteAsAnswered : {W E : Type 0} → (W → Option (List ℕ)) → Counting W → Counting W → Result ℕ E → List ℕ → Type 0
WroteAsAnswered contents w w' result piece = WriteAppends (contents (writer_in w)) (contents (writer_in w')) result piece
