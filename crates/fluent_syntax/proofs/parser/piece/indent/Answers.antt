use Rattle.fluent_syntax.specs.declared.parser.bytes.Class.TheVariants.{Space}
use Rattle.fluent_syntax.proofs.Runs.{boundary}
use Rattle.fluent_syntax.proofs.parser.piece.indent.Goals as goal

pub range-requires-clause-end_boundary : goal.range-requires-clause-end_boundary
range-requires-clause-end_boundary c = rw c.in-Some.ensures.indent.len (boundary Space c.args.s.now c.utf8.s)
