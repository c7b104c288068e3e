use Rattle.std.proofs.Common.{◌≡◌, ◌==◌, ◌≤◌, true, length, sym, ◌∙◌, subst, arith}
use Rattle.std.proofs.lemmas.Bool.Decides.{nat_tests}
use Rattle.fluent_text.specs.Parser.{first}
use Rattle.fluent_syntax.specs.Facts.OneLine.{is_other}
use Rattle.fluent_syntax.proofs.Progress.{AreWhole, text_first, line_empty, after_run, is_equal}
use Rattle.fluent_syntax.proofs.parser.first_line.first_line.Goals as goal

pub returns-then-not-may_go_on : goal.returns-then-not-may_go_on
returns-then-not-may_go_on g c =
    let n = c.args.depth in
    let s = c.args.s.now in
    let t = c.args.value.now in
    let after = c.args.after.now in
    let empty : length t ≤ 0 = grind (arith, nat_tests, c.if-is_empty.ensures) in
    let none = c.may_go_on.ensures c.if-not-may_go_on.true (after_run s t after c.requires.begin) (is_other (first after) 123 (λ e. c.if-byte_at-ne123.true (c.byte_at.ensures ∙ e))) n in
    subst (λ fs. AreWhole n s fs after) (sym c.requires.none) (line_empty n s t after empty c.requires.begin none)

pub returns : goal.returns
returns g c =
    let s = c.args.s.now in
    let after = c.args.after.now in
    let brace : (first after == 123) ≡ true = is_equal (first after) 123 (sym c.byte_at.ensures ∙ c.if-byte_at-ne123.false) in
    c.from_brace.ensures s (text_first c.args.depth s c.args.value.now after c.requires.begin brace) brace
