use Rattle.std.proofs.Common.{◌<◌, ◌≤◌, length, refl, sym, ap, ◌∙◌, arith}
use Rattle.std.proofs.lemmas.Bool.Decides.{nat_tests}
use Rattle.fluent_ast.specs.Tree.{text, placeable}
use Rattle.fluent_ast.specs.View.{element_view, expression_view}
use Rattle.fluent_syntax.specs.Layout.{unless_empty}
use Rattle.fluent_syntax.proofs.Ends.{trimmed_last, trimmed_away}
use Rattle.fluent_syntax.proofs.Views.{view_text, view_text_in, view_placeable, view_placeable_in}
use Rattle.fluent_syntax.proofs.Lines.{not_empty, is_empty}
use Rattle.fluent_syntax.proofs.parser.layout.trim_last.Goals as goal

pub returns-in_ok-push-in-Some-TextElement : goal.returns-in_ok-push-in-Some-TextElement
returns-in_ok-push-in-Some-TextElement c =
    let u = c.without_spaces-value.result.now in
    let some : 0 < length u = grind (arith, nat_tests) in
    trimmed_last element_view _ _ _ _ _ (text c.in-Some-TextElement.value.now) (text u) c.in-Some-TextElement.ensures.items c.in_ok-push-in-Some-TextElement.ensures.items
    (view_text_in _ _ c.in-Some-TextElement.field-0-is) (view_text c.without_spaces-value.result) (sym (not_empty u some) ∙ ap unless_empty c.without_spaces-value.ensures)

pub returns-else-not-is_empty : goal.returns-else-not-is_empty
returns-else-not-is_empty c =
    let u = c.without_spaces-value.result.now in
    let none : length u ≤ 0 = grind (arith, nat_tests) in
    trimmed_away element_view _ _ _ (text c.in-Some-TextElement.value.now) c.in-Some-TextElement.ensures.items
    (view_text_in _ _ c.in-Some-TextElement.field-0-is) (sym (is_empty u none) ∙ ap unless_empty c.without_spaces-value.ensures)

pub returns-in_ok-push-in-Some-Placeable : goal.returns-in_ok-push-in-Some-Placeable
returns-in_ok-push-in-Some-Placeable c =
    trimmed_last element_view _ _ _ _ _ (placeable (expression_view c.in-Some-Placeable.expression)) (placeable (expression_view c.in-Some-Placeable.expression)) c.in-Some-Placeable.ensures.items c.in_ok-push-in-Some-Placeable.ensures.items
    (view_placeable_in _ _ c.in-Some-Placeable.field-0-is) (view_placeable c.in-Some-Placeable.expression) refl
