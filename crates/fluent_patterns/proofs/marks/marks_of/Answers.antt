use Rattle.std.proofs.Common.{◌≤◌, length, sym, ap, ◌∙◌, arith}
use Rattle.fluent_patterns.specs.ScanView.{scan_view}
use Rattle.fluent_patterns.proofs.Steps.{scan-drop, scan-end}
use Rattle.fluent_patterns.proofs.marks.marks_of.Goals as goal

pub bytes-preserved : goal.bytes-preserved
bytes-preserved c =
    scan-drop c.if-to-all.bytes.now c.bytes.at (scan_view c.bytes.scan) (scan_view c.step.new.self) (omega arith) c.in_ok-step.ensures
    ∙ c.bytes.invariant

pub returns : goal.returns
returns c =
    let past : length c.if-to-all.bytes.now ≤ c.bytes.at = omega arith in
    ap (λ s. s.marks) (sym (scan-end c.if-to-all.bytes.now c.bytes.at (scan_view c.bytes.scan) past) ∙ c.bytes.invariant)
