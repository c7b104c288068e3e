use Rattle.std.proofs.Common.{◌≡◌, ◌++◌, drop}
use Rattle.fluent_c_handles.specs.Calls.Adding.{passed_over_lines}
use Rattle.fluent_c_handles.specs.Inside.Lines.{lines_in}
use Rattle.fluent_c_handles.specs.Inside.Telling.{left_at}
use Rattle.fluent_c_handles.proofs.telling.add_left.Given as goal

-- the lines so far, and those of the rest
abbrev pub invariant-loop-one : goal.invariant-loop-one
invariant-loop-one l = record {
  text : lines_in l.lines ++ passed_over_lines l.fn.lines.source.now (left_at l.starts (drop l.one-index l.left)) ≡ lines_in l.fn.lines ++ passed_over_lines l.fn.lines.source.now (left_at l.starts l.left);
  source : l.lines.source.now ≡ l.fn.lines.source.now;
}
