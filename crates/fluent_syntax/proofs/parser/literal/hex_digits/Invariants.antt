use Rattle.std.proofs.Common.{◌≡◌, ◌-◌}
use Rattle.fluent_syntax.specs.Expressions.{hex_digits}
use Rattle.fluent_syntax.proofs.parser.literal.hex_digits.Given as goal
use denote.Shadow.{shadow}
use denote.Text.{Utf8}

abbrev pub invariant-digits : goal.invariant-digits
invariant-digits l = shadow (Utf8 l.rest) × (hex_digits l.fn.count l.fn.s ≡ hex_digits (l.fn.count - l._turn) l.rest)
