use Rattle.std.proofs.Common.{◌≡◌, ◌++◌, ◌-◌, [], length}
use Rattle.std.specs.Prelude.{string_bytes}
use denote.Shadow.{shadow}
use denote.Text.{Utf8}
use Rattle.fluent_text.specs.Parser.{many_from}
use Rattle.fluent_text.specs.Escapes.{part}
use Rattle.fluent_text.proofs.unicode.resolved.Given as goal

abbrev pub invariant-parts : goal.invariant-parts
invariant-parts l =
    shadow (Utf8 l.rest) × (many_from ◌++◌ part (length l.fn.text) [] l.fn.text ≡ many_from ◌++◌ part (l._turn-end - l._turn) (string_bytes l.out) l.rest)
