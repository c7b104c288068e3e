use Rattle.std.proofs.Common.{◌-◌, ◌+◌, ◌∙◌, sym, length, arith}
use Rattle.fluent_text.specs.Parser.{one_more}
use Rattle.fluent_text.specs.Lexical.{blank_turn}
use Rattle.fluent_text.specs.Facts.Turns.{more}
use Rattle.fluent_reasons.proofs.spaces.more_blanks.Goals as goal

pub blanks-preserved : goal.blanks-preserved
blanks-preserved c =
    let n = length c.args.s.now in
    let step = more one_more blank_turn (n - c.blanks._turn) (n - (c.blanks._turn + 1)) c.blanks.count c.blanks.rest.now _ c.in-Some.next.now (omega arith) (sym c.in-Some.ensures) (omega arith) in
    (c.blanks.invariant.0 ∙ step, omega arith)
