use Rattle.std.proofs.Common.{inl, inr, ◌∙◌, rules, arith}
use Rattle.fluent_places.specs.Facts.LinesOn.{feed_line, feed_column, same_line, next_column, same_column}
use Rattle.fluent_places.proofs.lines.position_after.Goals as goal
use Rattle.fluent_places.proofs.lines.position_after.Goals.{then-byte-eq10, else-byte-eq10+then-byte-lt128, then-byte-lt128-via-then-byte-lt128, then-byte-lt128-via-else-byte-lt128+then-byte-ge192, else-byte-eq10+else-byte-lt128+else-byte-ge192}

pub loop-byte-preserved : goal.loop-byte-preserved
loop-byte-preserved c =
    let inv = c.loop-byte.invariant in
    let in_range = c.loop-byte-test.true in
    elim c.if-byte-eq10.branch [
      | then-byte-eq10 w ↦ record {
        line = w.line-is ∙ feed_line c.args.before.now c.loop-byte.byte-index _ in_range c.loop-byte.line inv.line w.if-byte-eq10.true (search rules);
        column = w.column-is ∙ feed_column c.args.before.now c.loop-byte.byte-index _ in_range c.loop-byte.column inv.column w.if-byte-eq10.true (search rules);
        lines_fit = omega (arith, w.line-is, inv.lines_fit);
        columns_fit = omega (arith, w.column-is);
      }
      | else-byte-eq10+then-byte-lt128 w ↦ record {
        line = w.line-is ∙ same_line c.args.before.now c.loop-byte.byte-index _ in_range c.loop-byte.line inv.line w.if-byte-eq10.false (search rules);
        column = w.column-is ∙ next_column c.args.before.now c.loop-byte.byte-index _ in_range c.loop-byte.column inv.column w.if-byte-eq10.false (elim w.then-byte-lt128.branch [ then-byte-lt128-via-then-byte-lt128 v ↦ inl v.if-byte-lt128.true | then-byte-lt128-via-else-byte-lt128+then-byte-ge192 v ↦ inr v.if-byte-ge192.true ]) (search rules);
        lines_fit = omega (arith, w.line-is, inv.lines_fit);
        columns_fit = omega (arith, w.column-is, inv.columns_fit);
      }
      | else-byte-eq10+else-byte-lt128+else-byte-ge192 w ↦ record {
        line = w.line-is ∙ same_line c.args.before.now c.loop-byte.byte-index _ in_range c.loop-byte.line inv.line w.if-byte-eq10.false (search rules);
        column = w.column-is ∙ same_column c.args.before.now c.loop-byte.byte-index _ in_range c.loop-byte.column inv.column w.if-byte-eq10.false (λ h. omega (arith, h, w.if-byte-lt128.false)) (λ h. omega (arith, h, w.if-byte-ge192.false)) (search rules);
        lines_fit = omega (arith, w.line-is, inv.lines_fit);
        columns_fit = omega (arith, w.column-is, inv.columns_fit);
      }
    ]
