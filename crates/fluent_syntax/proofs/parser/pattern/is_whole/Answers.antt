use Rattle.std.proofs.Common.{◌<◌, length, sym, arith}
use Rattle.std.proofs.lemmas.Bool.Decides.{nat_tests}
use Rattle.fluent_syntax.specs.Facts.OneLine.{one_line_at}
use Rattle.fluent_syntax.proofs.parser.pattern.is_whole.Goals as goal

pub returns-then-not-is_empty : goal.returns-then-not-is_empty
returns-then-not-is_empty c = λ e s parts.
    let some : 0 < length c.args.line.now = grind (arith, nat_tests, c.if-not-is_empty.ensures) in
    let end = c.ends_pattern.ensures e in
    one_line_at s c.args.line.now c.args.rest.now (sym parts) some end.0 end.1
