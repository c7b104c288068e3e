use Rattle.std.proofs.Common.{ap, ◌∙◌, arith, rules}
use Rattle.fluent_text.specs.Parser.{run_len}
use Rattle.fluent_text.specs.Lexical.{is_identifier_byte}
use Rattle.fluent_syntax.proofs.NameRuns.{name_ends}
use Rattle.fluent_syntax.proofs.parser.bytes.name_len.Goals as goal

pub returns : goal.returns
returns c =
    name_ends c.as_bytes-bytes.result.now c.name_lanes-at.result (omega (arith, c.name_lanes-at.ensures.within)) c.name_lanes-at.ensures.passed
    (search (rules, c.is_name_byte.ensures, c.if-is_name_byte.ensures)) ∙ ap (run_len is_identifier_byte) c.as_bytes-bytes.ensures.value
