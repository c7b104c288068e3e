-- Texts that go to a writer, or to a buffer beside it.
use Rattle.std.proofs.Common.{◌≡◌, refl, sym, ap, subst, ◌∙◌, ℕ, List, [], ◌∷◌, ◌++◌, Bool, true, false, Option, Some, Result, Ok, OnOk, OnErr, Global, String, string_bytes}
use Rattle.std.specs.Io.KnownBytes.{Appends}
use Rattle.fluent_ast.specs.Tree.{Text}
use Rattle.fluent_text.specs.Taken.{TookPrefix}
use Rattle.fluent_text.specs.Writer.{writer_in, CountsFault}
use Rattle.fluent_text.specs.declared.counting.WriteFault.{WriteFault}
use Rattle.fluent_text.specs.declared.counting.Counting.{Counting}
use Rattle.fluent_values.specs.declared.output.Halt.{Halt}
use Rattle.fluent_values.specs.Sinks.{GoesThrough, SinkTook, without_error, writer, at, keeping, outside, sink}
use Rattle.fluent_values.specs.declared.output.Output.{Output}
use Rattle.fluent_values.specs.Facts.Took.{took_by, took_whole}

-- into the buffer
pub in_buffer : {W : Type 0} (contents : W → Option Text) (name name' : ℕ) (w : Counting W) (s s' : String Global) (b : Bool) (t : Text) → b ≡ true → string_bytes s' ≡ string_bytes s ++ t → SinkTook {T = Unit {0}} (Ok tt) t (at contents name w name' s b) (at contents name w name' s' b)
in_buffer contents name name' w s s' b t is h = subst (λ b. SinkTook (Ok tt) t (at contents name w name' s b) (at contents name w name' s' b)) (sym is) (took_whole t _ _ h (refl, refl) refl refl)

-- to the writer
pub to_writer : {W : Type 0} (r : Result (Unit {0}) WriteFault) (contents : W → Option Text) (name name' : ℕ) (w w' : Counting W) (s : String Global) (b : Bool) (t : Text) → b ≡ false → OnOk r (Appends (contents (writer_in w)) (contents (writer_in w')) t) → OnErr r (TookPrefix (contents (writer_in w)) (contents (writer_in w')) t) → CountsFault w w' r → SinkTook (without_error r) t (at contents name w name' s b) (at contents name w' name' s b)
to_writer r contents name name' w w' s b t is whole prefix fault = subst (λ b. SinkTook (without_error r) t (at contents name w name' s b) (at contents name w' name' s b)) (sym is) (took_by r t _ _ whole prefix fault refl refl)

-- into the text that is kept
pub in_kept : {W : Type 0} (contents : W → Option Text) (name name' : ℕ) (w : Counting W) (s t t' : String Global) (b k : Bool) (x : Text) → k ≡ true → string_bytes t' ≡ string_bytes t ++ x → SinkTook {T = Unit {0}} (Ok tt) x (keeping k t (contents (writer_in w)) (string_bytes s) (at contents name w name' s b)) (keeping k t' (contents (writer_in w)) (string_bytes s) (at contents name w name' s b))
in_kept contents name name' w s t t' b k x is h = subst (λ k. SinkTook {T = Unit {0}} (Ok tt) x (keeping k t (contents (writer_in w)) (string_bytes s) (at contents name w name' s b)) (keeping k t' (contents (writer_in w)) (string_bytes s) (at contents name w name' s b))) (sym is) (took_whole x _ _ h (refl, refl) refl refl)

-- with none kept
pub unkept : {W T : Type 0} {r : Result T Halt} (contents : W → Option Text) (out out' : Output W) (t : Text) → out.is_kept ≡ false → out'.is_kept ≡ out.is_kept → SinkTook r t (outside contents out) (outside contents out') → SinkTook r t (sink contents out) (sink contents out')
unkept {r = r} contents out out' t is same h =
    subst (λ k. SinkTook r t (sink contents out) (keeping k out'.kept.now (contents (writer_in out'.writer.now)) (string_bytes out'.buffer.now) (outside contents out'))) (sym (same ∙ is))
    (subst (λ k. SinkTook r t (keeping k out.kept.now (contents (writer_in out.writer.now)) (string_bytes out.buffer.now) (outside contents out)) (outside contents out')) (sym is) h)

by_itself : {W : Type 0} {T : Type 0} {r : Result T Halt} (contents : W → Option Text) (n m : ℕ) (w w' : Counting W) (s kept : String Global) (b k : Bool) (t : Text) (l : ℕ × (ℕ × Bool)) → SinkTook r t (record (writer contents w) { borrowed = l }) (keeping k kept (contents (writer_in w')) (string_bytes s) (at contents n w' m s b)) → SinkTook r t (writer contents w) (writer contents w')
by_itself contents n m w w' s kept false false t l h = record { taken = h.taken; left = h.left; held = h.held; begins = h.begins; done = h.done; fault = h.fault; beside = refl; borrowed = refl }
by_itself contents n m w w' s kept true false t l h = absurd (let e : contents (writer_in w') ∷ [] ≡ [] = h.beside in cc)
by_itself contents n m w w' s kept b true t l h = absurd (let e : contents (writer_in w') ∷ Some (string_bytes s) ∷ [] ≡ [] = h.beside in cc)

-- what an output without a buffer took, its writer took
pub by_writer : {W : Type 0} {T : Type 0} {r : Result T Halt} {l : ℕ × (ℕ × Bool)} (contents : W → Option Text) (w w'' : Counting W) (out : Output W) (t : Text) → w'' ≡ out.writer.now → SinkTook r t (record (writer contents w) { borrowed = l }) (sink contents out) → SinkTook r t (writer contents w) (writer contents w'')
by_writer {r = r} {l = l} contents w w'' out t same h =
    subst (λ v. SinkTook r t (writer contents w) (writer contents v)) (sym same)
    (by_itself contents out.writer.ghost_name out.buffer.ghost_name w out.writer.now out.buffer.now out.kept.now out.is_buffered out.is_kept t l h)

-- what stands beside an output, by which of the two flags are set
abbrev besides : {W : Type 0} → (W → Option Text) → Output W → Bool → Bool → List (Option Text)
besides contents out k b = (keeping k out.kept.now (contents (writer_in out.writer.now)) (string_bytes out.buffer.now) (at contents out.writer.ghost_name out.writer.now out.buffer.ghost_name out.buffer.now b)).beside

neither : {W : Type 0} (contents : W → Option Text) (out : Output W) (k b : Bool) → besides contents out k b ≡ [] → (k ≡ false) × (b ≡ false)
neither contents out false false h = (refl, refl)
neither contents out false true h = absurd cc
neither contents out true b h = absurd cc

-- an output whose texts go to its writer stays one
pub stays_through : {W : Type 0} (contents : W → Option Text) (out out' : Output W) → (sink contents out').beside ≡ (sink contents out).beside → GoesThrough out → GoesThrough out'
stays_through contents out out' same h =
    neither contents out' out'.is_kept out'.is_buffered (same ∙ ap (λ k. besides contents out k out.is_buffered) h.0 ∙ ap (besides contents out false) h.1)
