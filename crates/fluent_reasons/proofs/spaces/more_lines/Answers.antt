use Rattle.std.proofs.Common.{◌-◌, ◌+◌, ◌∙◌, sym, length, arith}
use Rattle.fluent_text.specs.Parser.{one_more}
use Rattle.fluent_text.specs.Lexical.{blank_line}
use Rattle.fluent_text.specs.Facts.Turns.{more}
use Rattle.fluent_reasons.proofs.spaces.more_lines.Goals as goal

pub lines-preserved : goal.lines-preserved
lines-preserved c =
    let n = length c.args.s.now in
    let step = more one_more blank_line (n - c.lines._turn) (n - (c.lines._turn + 1)) c.lines.count c.lines.rest.now _ c.in-Some.next.now (omega arith) (sym c.in-Some.ensures) (omega arith) in
    (c.lines.invariant.0 ∙ step, omega arith)
