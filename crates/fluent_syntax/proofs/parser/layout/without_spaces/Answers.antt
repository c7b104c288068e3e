use Rattle.std.proofs.Common.{arith}
use Rattle.fluent_syntax.proofs.parser.layout.without_spaces.Goals as goal

pub range-requires-clause-end_boundary : goal.range-requires-clause-end_boundary
range-requires-clause-end_boundary c = (omega arith, λ h low. let e = c.spaces.invariant.1 h in omega arith)
