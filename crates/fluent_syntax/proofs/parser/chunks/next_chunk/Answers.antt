use Rattle.std.proofs.Common.{rules}
use Rattle.fluent_syntax.specs.Inside.PartView.{part_view}
use Rattle.fluent_syntax.specs.Facts.Chunked.{part_le, part_boundary}
use Rattle.fluent_syntax.proofs.parser.chunks.next_chunk.Goals as goal

pub overflow_sub-s : goal.overflow_sub-s
overflow_sub-s c = part_le c.args.s.now (part_view c.in_ok-part.part) c.in_ok-part.rest.now c.in_ok-part.ensures

pub range-requires-clause-end_boundary : goal.range-requires-clause-end_boundary
range-requires-clause-end_boundary c = part_boundary c.args.s.now (part_view c.in_ok-part.part) c.in_ok-part.rest.now c.in_ok-part.ensures (search rules)
