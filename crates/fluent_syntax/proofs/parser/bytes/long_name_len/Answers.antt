use Rattle.std.proofs.Common.{◌≡◌, sym, ap, ◌∙◌, subst, length, arith, rules}
use Rattle.fluent_text.specs.Parser.{run_len}
use Rattle.fluent_text.specs.Lexical.{is_identifier_byte}
use Rattle.fluent_syntax.proofs.NameRuns.{AreOfName, name_ends, name_to_end}
use Rattle.fluent_syntax.proofs.parser.bytes.long_name_len.Goals as goal

pub returns-then-not-is_name_byte : goal.returns-then-not-is_name_byte
returns-then-not-is_name_byte c =
    let value = c.as_bytes-bytes.ensures.value in
    name_ends c.as_bytes-bytes.result.now c.name.at (omega arith) (subst (λ t. AreOfName t c.name.at) (sym value) c.name.invariant)
    (search (rules, c.is_name_byte.ensures, c.if-not-is_name_byte.ensures)) ∙ ap (run_len is_identifier_byte) value

pub returns : goal.returns
returns c =
    let value = c.as_bytes-bytes.ensures.value in
    let at_end : c.name.at ≡ length c.as_bytes-bytes.result.now = omega arith in
    name_to_end c.as_bytes-bytes.result.now (subst (λ t. AreOfName t (length c.as_bytes-bytes.result.now)) (sym value) (subst (AreOfName c.args.s.now) at_end c.name.invariant)) ∙ ap (run_len is_identifier_byte) value
