use Rattle.std.proofs.Common.{◌≡◌, ◌++◌, ◌-◌, ℕ, List, [], length}
use Rattle.std.specs.Io.KnownBytes.{Appends}
use Rattle.fluent_text.specs.Writer.{writer_in, failed_in, empty_in}
use denote.Shadow.{shadow}
use denote.Text.{Utf8}
use Rattle.fluent_text.specs.Parser.{many_from}
use Rattle.fluent_text.specs.Escapes.{part}
use Rattle.fluent_text.proofs.unicode.unescape_unicode.Given as goal

abbrev pub invariant-parts : goal.invariant-parts
invariant-parts g l =
    shadow (Utf8 l.rest)
    × ((prefix : List ℕ) × (many_from ◌++◌ part (length l.fn.text) [] l.fn.text ≡ many_from ◌++◌ part (l._turn-end - l._turn) prefix l.rest) × Appends (g.W.Write.contents (writer_in l.fn.w)) (g.W.Write.contents (writer_in l.w)) prefix)
    × (failed_in l.w ≡ failed_in l.fn.w)
    × (empty_in l.w ≡ empty_in l.fn.w)
