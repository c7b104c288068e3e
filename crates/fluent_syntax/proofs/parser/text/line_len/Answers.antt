use Rattle.std.proofs.Common.{ap, ◌∙◌}
use Rattle.fluent_text.specs.Parser.{run_len}
use Rattle.fluent_text.specs.Lexical.{is_inside}
use Rattle.fluent_syntax.proofs.LineRuns.{line_to_end, line_to_feed}
use Rattle.fluent_syntax.proofs.parser.text.line_len.Goals as goal

pub returns-in-Some : goal.returns-in-Some
returns-in-Some c =
    let p = c.in-Some.ensures in
    line_to_feed c.as_bytes-bytes.result.now c.in-Some.at p.0.high p.0.before p.1 ∙ ap (run_len is_inside) c.as_bytes-bytes.ensures.value

pub returns-in-None : goal.returns-in-None
returns-in-None c = line_to_end c.as_bytes-bytes.result.now c.in-None.ensures ∙ ap (run_len is_inside) c.as_bytes-bytes.ensures.value
