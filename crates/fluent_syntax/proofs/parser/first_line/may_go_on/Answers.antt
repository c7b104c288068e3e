use Rattle.std.proofs.Common.{sym, ap, ◌∙◌, ◌<◌, subst}
use Rattle.std.specs.Bool.{◌==◌}
use Rattle.fluent_syntax.specs.Inside.Progress.{closes_pattern}
use Rattle.fluent_syntax.proofs.NextLine.{negated, plain_ends, indented_ends}
use Rattle.fluent_syntax.proofs.parser.first_line.may_go_on.Goals as goal

pub returns-then-next-gt32 : goal.returns-then-next-gt32
returns-then-next-gt32 c = λ e.
    let line = c.in-Some.line.now in
    plain_ends c.args.s.now line (sym c.in-Some.ensures) (sym c.in_default-line_indent.ensures.gives)
    (subst (λ b. 32 < b) c.byte_at-next.ensures c.if-next-gt32.true)
    (ap (λ b. b == 123) (sym c.byte_at-next.ensures) ∙ e)

pub returns-then-next-gt32-2 : goal.returns-then-next-gt32-2
returns-then-next-gt32-2 c = λ e.
    let text = c.in-Some-line_indent.text.now in
    indented_ends c.args.s.now c.in-Some.line.now text c.in-Some-line_indent.field-0-0 (sym c.in-Some.ensures) (sym c.in-Some-line_indent.ensures.gives)
    (subst (λ b. 32 < b) c.byte_at-next-2.ensures c.if-next-gt32-2.true)
    (ap closes_pattern (sym c.byte_at-next-2.ensures) ∙ (sym c.closes_pattern.ensures ∙ negated c.closes_pattern.result e))
