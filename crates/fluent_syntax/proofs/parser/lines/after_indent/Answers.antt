use Rattle.std.proofs.Common.{◌<◌, arith}
use Rattle.fluent_text.specs.Parser.{first}
use Rattle.fluent_syntax.proofs.Spaces.{only_spaces}
use Rattle.fluent_syntax.proofs.parser.lines.after_indent.Goals as goal

pub returns-then-byte_at-gt32 : goal.returns-then-byte_at-gt32
returns-then-byte_at-gt32 c =
    let above : 32 < first c.after_line_spaces-rest.result.now = omega arith in
    only_spaces c.args.s.now c.after_line_spaces-rest.result.now c.after_line_spaces-rest.ensures above
