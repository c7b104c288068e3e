use Rattle.std.proofs.Common.{◌-◌, ◌+◌, ◌∙◌, sym, length, arith, rules}
use Rattle.fluent_text.specs.Parser.{one_more}
use Rattle.fluent_syntax.specs.Chunks.{junk_line}
use Rattle.fluent_text.specs.Facts.Turns.{more}
use Rattle.fluent_syntax.proofs.parser.junk.more_junk.Goals as goal

pub junk-preserved : goal.junk-preserved
junk-preserved c =
    let n = length c.args.s.now in
    let step = more one_more junk_line (n - c.junk._turn) (n - (c.junk._turn + 1)) c.junk.count c.junk.rest.now _ c.in-Some.next.now (omega arith) (sym c.in-Some.ensures) (omega arith) in
    (search rules, c.junk.invariant.1 ∙ step, omega arith)
