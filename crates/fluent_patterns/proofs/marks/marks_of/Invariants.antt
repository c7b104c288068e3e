use Rattle.std.proofs.Common.{◌≡◌, drop}
use Rattle.fluent_patterns.specs.Marks.{between, begin, scan}
use Rattle.fluent_patterns.specs.ScanView.{scan_view}
use Rattle.fluent_patterns.proofs.marks.marks_of.Given as goal

abbrev pub invariant-bytes : goal.invariant-bytes
invariant-bytes l = scan l.at (drop l.at l.bytes) (scan_view l.scan) ≡ scan l.fn.from (between l.fn.from l.fn.to l.fn.text) begin
