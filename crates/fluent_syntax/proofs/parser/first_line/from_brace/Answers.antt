use Rattle.std.proofs.Common.{◌≡◌, ◌==◌, ◌++◌, ◌∷◌, [], true, None, Err, map, sym, ap, ◌∙◌, subst, rules}
use Rattle.fluent_text.specs.Parser.{first}
use Rattle.fluent_syntax.specs.Expressions.{level}
use Rattle.fluent_syntax.specs.Layout.{unless_empty}
use Rattle.fluent_ast.specs.Tree.{placeable}
use Rattle.fluent_ast.specs.View.{element_view, expression_view}
use Rattle.fluent_syntax.specs.Inside.Progress.{InLine}
use Rattle.fluent_syntax.specs.Inside.Reading.{Gives, all}
use Rattle.fluent_syntax.proofs.Progress.{AreWhole, text_in_line, hole_in_line, line_ended, brace_ended, after_run, is_equal}
use Rattle.fluent_syntax.proofs.parser.first_line.from_brace.Goals as goal

pub returns-in-Err-Absent : goal.returns-in-Err-Absent
returns-in-Err-Absent g c = λ whole h b.
    let n = c.args.depth in
    let s = c.elements.rest.now in
    let none : (level n).braces s ≡ None = subst (λ e. Gives expression_view (Err e) ((level n).braces s)) c.in-Err-Absent.field-0-is c.in-Err-Absent.ensures in
    let i = c.elements.invariant.reached whole h b in
    subst (λ fs. AreWhole n whole fs s) (sym c.in_ok-push_text-in-Err-Absent.ensures)
    (brace_ended n whole (all element_view c.elements.found ++ unless_empty c.elements.value.now) s i.0 i.1 none)

pub returns-then-ends : goal.returns-then-ends
returns-then-ends g c = λ whole h b.
    let n = c.args.depth in
    let v = unless_empty c.elements.value.now in
    let es = all element_view c.elements.found in
    let x = expression_view c.in-Ok.read.0 in
    let next = c.in-Ok.read.1.now in
    let i = c.elements.invariant.reached whole h b in
    let kept : all element_view c.push_both.new.found ≡ (es ++ v) ++ placeable x ∷ [] =
    c.in_ok-push_both.ensures ∙ ap (λ xs. (map element_view xs ++ v) ++ placeable x ∷ []) c.in_ok-make_room.ensures in
    let reached : InLine n whole (all element_view c.push_both.new.found) next =
    subst (λ fs. InLine n whole fs next) (sym kept) (hole_in_line n whole (es ++ v) c.elements.rest.now next x i.0 i.1 c.in-Ok.ensures) in
    let t = c.split_run.result.0.now in
    let after = c.split_run.result.1.now in
    let end = c.ends_pattern-ends.ensures c.if-ends.true in
    subst (λ fs. AreWhole n whole fs after) (sym c.in_ok-push_text.ensures)
    (line_ended n whole (all element_view c.push_both.new.found) next t after reached c.split_run.ensures.parts (end.1 (after_run next t after c.split_run.ensures.parts) end.0 n))

pub returns-then-byte_at-ne123 : goal.returns-then-byte_at-ne123
returns-then-byte_at-ne123 g c = λ whole h b.
    let n = c.args.depth in
    let v = unless_empty c.elements.value.now in
    let es = all element_view c.elements.found in
    let x = expression_view c.in-Ok.read.0 in
    let next = c.in-Ok.read.1.now in
    let i = c.elements.invariant.reached whole h b in
    let kept : all element_view c.push_both.new.found ≡ (es ++ v) ++ placeable x ∷ [] =
    c.in_ok-push_both.ensures ∙ ap (λ xs. (map element_view xs ++ v) ++ placeable x ∷ []) c.in_ok-make_room.ensures in
    let reached : InLine n whole (all element_view c.push_both.new.found) next =
    subst (λ fs. InLine n whole fs next) (sym kept) (hole_in_line n whole (es ++ v) c.elements.rest.now next x i.0 i.1 c.in-Ok.ensures) in
    reached.0

pub elements-preserved : goal.elements-preserved
elements-preserved g c = record {
  utf8 = search rules;
  text = search rules;
  reached = λ whole h b.
      let n = c.args.depth in
      let v = unless_empty c.elements.value.now in
      let es = all element_view c.elements.found in
      let x = expression_view c.in-Ok.read.0 in
      let next = c.in-Ok.read.1.now in
      let i = c.elements.invariant.reached whole h b in
      let kept : all element_view c.push_both.new.found ≡ (es ++ v) ++ placeable x ∷ [] =
      c.in_ok-push_both.ensures ∙ ap (λ xs. (map element_view xs ++ v) ++ placeable x ∷ []) c.in_ok-make_room.ensures in
      let reached : InLine n whole (all element_view c.push_both.new.found) next =
      subst (λ fs. InLine n whole fs next) (sym kept) (hole_in_line n whole (es ++ v) c.elements.rest.now next x i.0 i.1 c.in-Ok.ensures) in
      let t = c.split_run.result.0.now in
      let after = c.split_run.result.1.now in
      let brace : (first after == 123) ≡ true = is_equal (first after) 123 (sym c.byte_at.ensures ∙ c.if-byte_at-ne123.false) in (
        text_in_line n whole (all element_view c.push_both.new.found) next t after reached c.split_run.ensures.parts brace,
        brace,
      );
}
