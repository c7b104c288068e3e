use Rattle.std.proofs.Common.{◌∙◌}
use Rattle.fluent_text.specs.Parser.{first}
use Rattle.fluent_syntax.specs.Facts.OneLine.{is_other}
use Rattle.fluent_syntax.proofs.parser.first_line.ends_pattern.Goals as goal

pub returns : goal.returns
returns c = λ _. (is_other (first c.args.s.now) 123 (λ e. c.if-byte_at-eq123.false (c.byte_at.ensures ∙ e)), c.may_go_on.ensures c.if-may_go_on.false)
