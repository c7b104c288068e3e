use Rattle.std.proofs.Common.{◌≡◌, ◌∷◌, [], ◌++◌, ap, ◌∙◌}
use Rattle.std.proofs.lemmas.Result.{on_ok_weaker}
use Rattle.fluent_ast.specs.View.{element_view}
use Rattle.fluent_ast.specs.declared.ast.PatternElement.TheVariants.{Placeable}
use Rattle.fluent_syntax.specs.Layout.{unless_empty}
use Rattle.fluent_syntax.specs.Inside.Reading.{all}
use Rattle.fluent_syntax.proofs.Progress.{added}
use Rattle.fluent_syntax.proofs.Views.{view_placeable}
use Rattle.fluent_syntax.proofs.parser.first_line.push_both.Goals as goal

pub returns : goal.returns
returns c =
    let x = c.args.expression in
    let old = c.push_text.new.found in
    let new = c.push.new.list in
    on_ok_weaker c.push.result
    (λ (e : new.items ≡ old.items ++ Placeable x ∷ []).
    added element_view old.items new.items (Placeable x) e
    ∙ (ap (λ es. es ++ element_view (Placeable x) ∷ []) c.in_ok-push_text.ensures
    ∙ ap (λ y. (all element_view c.args.found.now ++ unless_empty c.args.value.now) ++ y ∷ []) (view_placeable x)))
    c.push.ensures.items
