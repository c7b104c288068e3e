use Rattle.std.proofs.Common.{◌<◌, ◌≤◌, Some, length, sym, ap, ◌∙◌, subst, arith}
use Rattle.std.proofs.lemmas.Bool.Decides.{nat_tests}
use Rattle.std.proofs.lemmas.List.{length-map}
use Rattle.fluent_syntax.specs.Inside.Progress.{IsFirstLine}
use Rattle.fluent_syntax.specs.Inside.Reading.{all}
use Rattle.fluent_ast.specs.Tree.{pattern_of}
use Rattle.fluent_ast.specs.View.{element_view}
use Rattle.fluent_syntax.proofs.Progress.{AreWhole, pattern_absent, pattern_ended}
use Rattle.fluent_syntax.proofs.Views.{view_pattern}
use Rattle.fluent_syntax.proofs.parser.pattern.long_pattern.Goals as goal

pub returns-then-is_empty : goal.returns-then-is_empty
returns-then-is_empty g c =
    let es = all element_view c.first_line.new.found in
    let a : AreWhole c.args.depth c.args.s.now es c.in-Whole.rest.now = subst (IsFirstLine c.args.depth c.args.s.now es) c.in-Whole.is c.in_ok-line.ensures in
    let none : length c.first_line.new.found.items ≤ 0 = grind (arith, nat_tests, c.if-is_empty.ensures) in
    pattern_absent c.args.depth c.args.s.now c.in-Whole.rest.now a.0 (omega (arith, a.3, length-map c.first_line.new.found.items element_view)) a.1

pub returns-in_ok-trim_last-in-Whole : goal.returns-in_ok-trim_last-in-Whole
returns-in_ok-trim_last-in-Whole g c =
    let n = c.args.depth in
    let rest = c.in-Whole.rest.now in
    let es = all element_view c.first_line.new.found in
    let a : AreWhole n c.args.s.now es rest = subst (IsFirstLine n c.args.s.now es) c.in-Whole.is c.in_ok-line.ensures in
    let some : 0 < length c.first_line.new.found.items = grind (arith, nat_tests, c.if-is_empty.ensures) in
    pattern_ended n c.args.s.now rest a.0 (omega (arith, a.3, length-map c.first_line.new.found.items element_view)) a.1
    ∙ ap (λ p. Some (p, rest)) (ap pattern_of (a.2 ∙ sym c.in_ok-trim_last-in-Whole.ensures) ∙ sym (view_pattern c.trim_last.new.out))

pub returns-in-Open : goal.returns-in-Open
returns-in-Open g c = c.many_lines.ensures c.args.s.now (subst (IsFirstLine c.args.depth c.args.s.now (all element_view c.first_line.new.found)) c.in-Open.is c.in_ok-line.ensures)
