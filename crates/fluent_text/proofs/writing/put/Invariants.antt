use Rattle.std.proofs.Common.{◌≡◌, ◌++◌, ℕ, List, length}
use Rattle.std.specs.Io.KnownBytes.{Appends}
use Rattle.fluent_text.specs.Writer.{writer_in, failed_in, empty_in}
use Rattle.fluent_text.proofs.writing.put.Given as goal

abbrev pub invariant-loop-rest : goal.invariant-loop-rest
invariant-loop-rest g l =
    ((prefix : List ℕ) × (l.fn.piece ≡ prefix ++ l.rest) × Appends (g.W.Write.contents (writer_in l.fn.w)) (g.W.Write.contents (writer_in l.w)) prefix)
    × (failed_in l.w ≡ failed_in l.fn.w)
    × (empty_in l.w ≡ empty_in l.fn.w)

abbrev pub decreases-loop-rest : goal.decreases-loop-rest
decreases-loop-rest g l = length l.rest
