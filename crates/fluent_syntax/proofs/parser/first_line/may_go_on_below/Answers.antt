use Rattle.std.proofs.Common.{sym, ap, ◌∙◌}
use Rattle.std.specs.Bool.{◌==◌}
use Rattle.fluent_syntax.specs.Inside.Progress.{closes_pattern}
use Rattle.fluent_syntax.specs.Facts.OneLine.{ends, ends_at, closes}
use Rattle.fluent_syntax.proofs.parser.first_line.may_go_on_below.Goals as goal

pub returns-in_default-line_indent : goal.returns-in_default-line_indent
returns-in_default-line_indent c = λ e t b n.
    ends n c.args.s.now c.in-Some.line.now c.in-Some.field-0-0 t b (sym c.in-Some.ensures) (sym c.in_default-line_indent.ensures.gives) (ap (λ b. b == 123) (sym c.byte_at.ensures) ∙ e)

pub returns-then-closes_pattern : goal.returns-then-closes_pattern
returns-then-closes_pattern c = λ e t b n.
    ends_at n c.args.s.now c.in-Some.line.now c.in-Some-line_indent.text.now c.in-Some.field-0-0 c.in-Some-line_indent.field-0-0 t b (sym c.in-Some.ensures) (sym c.in-Some-line_indent.ensures.gives)
    (closes c.in-Some-line_indent.text.now (ap closes_pattern (sym c.byte_at-2.ensures) ∙ sym c.if-closes_pattern.ensures))
