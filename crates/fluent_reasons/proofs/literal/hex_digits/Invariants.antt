use Rattle.std.proofs.Common.{◌≡◌, ◌-◌}
use Rattle.fluent_syntax.specs.Expressions.{hex_digits}
use Rattle.fluent_reasons.proofs.literal.hex_digits.Given as goal

abbrev pub invariant-digits : goal.invariant-digits
invariant-digits l = (hex_digits l.fn.count l.fn.s ≡ hex_digits (l.fn.count - l._turn) l.rest)
