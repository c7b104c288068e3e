use Rattle.std.proofs.Common.{sym, ap, ◌∙◌, arith}
use Rattle.fluent_text.specs.Parser.{run_len}
use Rattle.fluent_text.specs.Lexical.{is_text}
use Rattle.fluent_syntax.specs.Facts.OneLine.{is_other}
use Rattle.fluent_syntax.proofs.Progress.{is_equal}
use Rattle.fluent_syntax.proofs.TextRuns.{text_at_brace, text_at_feed, text_to_end, text_to_brace, text_none, text_to_return, text_to_feed}
use Rattle.fluent_syntax.proofs.parser.text.text_len.Goals as goal

pub returns-in_default : goal.returns-in_default
returns-in_default c = text_to_end c.as_bytes-bytes.result.now c.in_default.ensures ∙ ap (run_len is_text) c.as_bytes-bytes.ensures.value

pub returns-then-bytes-at-ne10 : goal.returns-then-bytes-at-ne10
returns-then-bytes-at-ne10 c =
    let p = c.in-Some.ensures in
    text_to_brace c.as_bytes-bytes.result.now c.in-Some.at (is_other _ 10 c.if-bytes-at-ne10.true) p.0.high p.0.before p.1 ∙ ap (run_len is_text) c.as_bytes-bytes.ensures.value

pub returns-then-at-eq0 : goal.returns-then-at-eq0
returns-then-at-eq0 c =
    let p = c.in-Some.ensures in
    sym c.if-at-eq0.true ∙ (text_none c.as_bytes-bytes.result.now c.in-Some.at c.if-at-eq0.true p.0.high p.0.before p.1 ∙ ap (run_len is_text) c.as_bytes-bytes.ensures.value)

pub returns-then-bytes-at-eq13 : goal.returns-then-bytes-at-eq13
returns-then-bytes-at-eq13 c =
    let p = c.in-Some.ensures in
    text_to_return c.as_bytes-bytes.result.now c.in-Some.at (omega arith) (is_equal _ 13 c.if-bytes-at-eq13.true) (is_equal _ 10 c.if-bytes-at-ne10.false) p.0.high p.0.before ∙ ap (run_len is_text) c.as_bytes-bytes.ensures.value

pub returns : goal.returns
returns c =
    let p = c.in-Some.ensures in
    text_to_feed c.as_bytes-bytes.result.now c.in-Some.at (omega arith) (is_other _ 13 c.if-bytes-at-eq13.false) p.0.high p.0.before p.1 ∙ ap (run_len is_text) c.as_bytes-bytes.ensures.value

pub returns-then-next-eq123 : goal.returns-then-next-eq123
returns-then-next-eq123 c = text_at_brace c.args.s.now (sym c.byte_at-next.ensures ∙ c.if-next-eq123.true)

pub returns-then-next-eq10 : goal.returns-then-next-eq10
returns-then-next-eq10 c = text_at_feed c.args.s.now (sym c.byte_at-next.ensures ∙ c.if-next-eq10.true)
