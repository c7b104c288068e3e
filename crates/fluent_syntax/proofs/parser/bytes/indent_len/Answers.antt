use Rattle.std.proofs.Common.{ap, ◌∙◌, arith}
use Rattle.fluent_text.specs.Parser.{run_len}
use Rattle.fluent_text.specs.Lexical.{is_space}
use Rattle.fluent_syntax.specs.Facts.OneLine.{is_other}
use Rattle.fluent_syntax.proofs.NameRuns.{spaces_end}
use Rattle.fluent_syntax.proofs.parser.bytes.indent_len.Goals as goal

pub returns : goal.returns
returns c =
    spaces_end c.as_bytes-bytes.result.now c.space_lanes-at.result (omega (arith, c.space_lanes-at.ensures.within)) c.space_lanes-at.ensures.passed
    (is_other _ 32 c.if-bytes-at-eq32.false) ∙ ap (run_len is_space) c.as_bytes-bytes.ensures.value
