use Rattle.std.proofs.Common.{◌≡◌, ◌-◌, ◌<◌, ◌≤◌, ◌^◌, length}
use denote.Shadow.{shadow}
use denote.Text.{Utf8}
use Rattle.fluent_text.specs.Escapes.{hex_number}
use Rattle.fluent_text.proofs.unicode.hex_number.Given as goal

abbrev pub invariant-digits : goal.invariant-digits
invariant-digits l =
    shadow (Utf8 l.rest) × (hex_number l.count 0 l.fn.text ≡ hex_number (l.count - l._turn) l.number l.rest) × (l.number < 16 ^ l._turn) × (length l.rest ≤ length l.fn.text)
