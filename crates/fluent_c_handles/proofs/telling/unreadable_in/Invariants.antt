use Rattle.std.proofs.Common.{◌≡◌, ◌++◌, drop, map}
use Rattle.fluent_syntax.specs.Parsed.{error_range}
use Rattle.fluent_c_handles.specs.Calls.Adding.{unreadable_lines}
use Rattle.fluent_c_handles.specs.Inside.Lines.{lines_in}
use Rattle.fluent_c_handles.proofs.telling.unreadable_in.Given as goal

-- the lines so far, and those of the rest
abbrev pub invariant-loop-error : goal.invariant-loop-error
invariant-loop-error l = record {
  text : lines_in l.lines ++ unreadable_lines l.source (map error_range (drop l.error-index l.unreadable)) ≡ unreadable_lines l.source (map error_range l.unreadable);
  source : l.lines.source.now ≡ l.source;
}
