-- What a call with a counting writer took of a text.
use Rattle.std.specs.Prelude.{◌≡◌, ℕ, Bool, true, false, List, [], ◌∷◌, ◌++◌, Option, Some, Result, Ok, Err, OnOk, String, string_bytes}
use Rattle.std.specs.Io.KnownBytes.{Appends}
use Rattle.std.proofs.Common.{Global}
use Rattle.fluent_ast.specs.Tree.{Text}
use Rattle.fluent_text.specs.Taken.{raised}
use Rattle.fluent_text.specs.Writer.{writer_in, failed_in, empty_in}
use Rattle.fluent_text.specs.declared.counting.Counting.{Counting}
use Rattle.fluent_text.specs.declared.counting.WriteFault.{WriteFault}
use Rattle.fluent_text.specs.declared.counting.WriteFault.TheVariants as fault
use Rattle.fluent_values.specs.declared.output.Halt.{Halt}
use Rattle.fluent_values.specs.declared.output.Halt.TheVariants as halt
use Rattle.fluent_values.specs.declared.output.Output.{Output}

-- an answer without the writer's own error
abbrev pub halt_of : WriteFault → Halt
halt_of (fault.Writer e) = halt.Writer
halt_of fault.Zero = halt.Zero
halt_of fault.Memory = halt.Memory

abbrev pub without_error : {T : Type 0} → Result T WriteFault → Result T Halt
without_error (Ok x) = Ok x
without_error (Err e) = Err (halt_of e)

-- which of a writer's two counts an answer raised, from the counts before and after
abbrev pub CountsTell : {T : Type 0} → ℕ → ℕ → ℕ → ℕ → Result T Halt → Type 0
CountsTell failed empty failed' empty' (Ok x) = (failed' ≡ failed) × (empty' ≡ empty)
CountsTell failed empty failed' empty' (Err halt.Writer) = (failed' ≡ raised failed) × (empty' ≡ empty)
CountsTell failed empty failed' empty' (Err halt.Zero) = (failed' ≡ failed) × (empty' ≡ raised empty)
CountsTell failed empty failed' empty' (Err halt.Memory) = (failed' ≡ failed) × (empty' ≡ empty)

-- what is known of where a text goes: the bytes that it holds, the writer's two counts, what those hold that it doesn't go to, and which borrows these are
pub record Sink : Type 0 where
  pub held : Option Text
  pub failed : ℕ
  pub empty : ℕ
  pub beside : List (Option Text)
  pub borrowed : ℕ × (ℕ × Bool)

-- a writer that counts
abbrev pub writer : {W : Type 0} → (W → Option Text) → Counting W → Sink
writer contents w = record { held = contents (writer_in w); failed = failed_in w; empty = empty_in w; beside = []; borrowed = (0, (0, false)) }

-- a text beside a writer
abbrev pub beside : {W : Type 0} → (W → Option Text) → Counting W → String Global → Sink
beside contents w s = record { held = Some (string_bytes s); failed = failed_in w; empty = empty_in w; beside = contents (writer_in w) ∷ []; borrowed = (0, (0, true)) }

abbrev pub at : {W : Type 0} → (W → Option Text) → ℕ → Counting W → ℕ → String Global → Bool → Sink
at contents name w name' s false = record (writer contents w) { borrowed = (name, (name', false)) }
at contents name w name' s true = record { held = Some (string_bytes s); failed = failed_in w; empty = empty_in w; beside = contents (writer_in w) ∷ []; borrowed = (name, (name', true)) }

-- where a text goes if none is kept
abbrev pub outside : {W : Type 0} → (W → Option Text) → Output W → Sink
outside contents out = at contents out.writer.ghost_name out.writer.now out.buffer.ghost_name out.buffer.now out.is_buffered

-- a text that is kept takes it, in the place of these
abbrev pub keeping : Bool → String Global → Option Text → Text → Sink → Sink
keeping false t written buffered w = w
keeping true t written buffered w = record w { held = Some (string_bytes t); beside = written ∷ Some buffered ∷ [] }

abbrev pub sink : {W : Type 0} → (W → Option Text) → Output W → Sink
sink contents out = keeping out.is_kept out.kept.now (contents (writer_in out.writer.now)) (string_bytes out.buffer.now) (outside contents out)

-- Of a text a beginning was taken, and all of it where the answer is Ok.
pub record SinkTook {T : Type 0} (result : Result T Halt) (text : Text) (w w' : Sink) : Type 0 where
  pub taken : Text
  pub left : Text
  pub held : Appends w.held w'.held taken
  pub begins : taken ++ left ≡ text
  pub done : OnOk result (left ≡ [])
  pub fault : CountsTell w.failed w.empty w'.failed w'.empty result
  pub beside : w'.beside ≡ w.beside
  pub borrowed : w'.borrowed ≡ w.borrowed

-- texts go to the writer
abbrev pub GoesThrough : {W : Type 0} → Output W → Type 0
GoesThrough out = (out.is_kept ≡ false) × (out.is_buffered ≡ false)
