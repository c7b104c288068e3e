use Rattle.std.proofs.Common.{sym}
use Rattle.fluent_syntax.specs.Expressions.{number_parts}
use Rattle.fluent_syntax.specs.Facts.Prefixes.{left_within, left_end}
use Rattle.fluent_syntax.specs.Facts.Literals.{takes-number_parts}
use Rattle.fluent_syntax.proofs.parser.literal.number_literal.Goals as goal

pub before-requires-clause-within : goal.before-requires-clause-within
before-requires-clause-within c = left_within number_parts _ _ _ takes-number_parts (sym c.in_ok-rest.ensures)

pub before-requires-clause-end : goal.before-requires-clause-end
before-requires-clause-end c = left_end number_parts _ _ _ takes-number_parts (sym c.in_ok-rest.ensures)
