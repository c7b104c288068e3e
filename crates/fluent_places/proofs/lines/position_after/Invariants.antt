use Rattle.std.proofs.Common.{◌≡◌, ◌+◌, ◌≤◌, take}
use Rattle.fluent_places.specs.Columns.{column_after, line_after}
use Rattle.fluent_places.proofs.lines.position_after.Given as goal

abbrev pub invariant-loop-byte : goal.invariant-loop-byte
invariant-loop-byte l = record {
  line : l.line ≡ line_after (take l.byte-index l.before);
  column : l.column ≡ column_after (take l.byte-index l.before);
  lines_fit : l.line ≤ l.byte-index + 1;
  columns_fit : l.column ≤ l.byte-index + 1;
}
