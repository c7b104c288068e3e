-- What a counting writer shows: the writer below it, and its two counts.
use Rattle.std.specs.Prelude.{◌≡◌, ℕ, Result, Ok, Err}
use Rattle.fluent_text.specs.Taken.{raised}
use Rattle.fluent_text.specs.declared.counting.Counting.{Counting}
use Rattle.fluent_text.specs.declared.counting.WriteFault.{WriteFault}
use Rattle.fluent_text.specs.declared.counting.WriteFault.TheVariants.{Memory, Writer, Zero}

-- the writer that takes the bytes
unfoldable pub writer_in : {W : Type 0} → Counting W → W
writer_in w = w.inner

-- how many of its single writes failed
unfoldable pub failed_in : {W : Type 0} → Counting W → ℕ
failed_in w = w.failed

-- how many of its single writes of a nonempty piece took no byte
unfoldable pub empty_in : {W : Type 0} → Counting W → ℕ
empty_in w = w.empty

-- which count a fault raised, from the counts before and after: the writer's own error the first, a write of no byte the second
abbrev pub Faulted : {T : Type 0} → ℕ → ℕ → ℕ → ℕ → Result T WriteFault → Type 0
Faulted failed empty failed' empty' (Ok x) = (failed' ≡ failed) × (empty' ≡ empty)
Faulted failed empty failed' empty' (Err (Writer e)) = (failed' ≡ raised failed) × (empty' ≡ empty)
Faulted failed empty failed' empty' (Err Zero) = (failed' ≡ failed) × (empty' ≡ raised empty)
Faulted failed empty failed' empty' (Err Memory) = (failed' ≡ failed) × (empty' ≡ empty)

abbrev pub CountsFault : {W T : Type 0} → Counting W → Counting W → Result T WriteFault → Type 0
CountsFault w w' result = Faulted (failed_in w) (empty_in w) (failed_in w') (empty_in w') result
