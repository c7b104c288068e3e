use Rattle.std.proofs.Common.{◌≡◌, ◌<◌, ◌∙◌, ◌&&◌, ◌++◌, ap, sym, true, false, length, drop, arith, rules}
use Rattle.std.proofs.lemmas.Bool.Decides.{nat_tests}
use Rattle.fluent_ast.specs.Tree.{text}
use Rattle.fluent_ast.specs.View.{element_view}
use Rattle.fluent_syntax.specs.Inside.Backwards.{backwards}
use Rattle.fluent_syntax.specs.Layout.{lines, starts_line}
use Rattle.fluent_syntax.proofs.Views.{view_text}
use Rattle.fluent_syntax.proofs.Lines.{words_fed, words_alone, not_empty, either_false, first_false}
use Rattle.fluent_syntax.proofs.Ends.{popped, pushed_prefix}
use Rattle.fluent_syntax.proofs.parser.layout.push_words.Goals.{else-after_line-via-else-after_line, else-after_line-via-then-after_line+in-None-1}
use Rattle.fluent_syntax.proofs.parser.layout.push_words.Goals as goal

pub returns : goal.returns
returns c done before line =
    let after : true ≡ starts_line done = search (rules, line, c.if-after_line.true) in
    let less = popped element_view _ _ (lines c.args.common done) _ (search rules) c.pop.ensures.rest before in
    let fed = c.in-Some.ensures in
    pushed_prefix element_view _ _ _ (text c.in-Some.value.now) (drop 1 (lines c.args.common done)) less c.in_ok-push.ensures.items (view_text c.in-Some.value)
    ∙ ap backwards (words_fed c.args.common c.args.words.now done c.in-Some.value.now fed.0 after fed.1)

pub returns-2 : goal.returns-2
returns-2 c done before line =
    let alone : (c.args.words.now.fed && starts_line done) ≡ false =
    elim c.else-after_line.branch [
      | else-after_line-via-else-after_line w ↦ either_false c.args.after_line (starts_line done) c.args.words.now.fed line (search (rules, w.if-after_line.false))
      | else-after_line-via-then-after_line+in-None-1 w ↦ first_false c.args.words.now.fed (starts_line done) (search (rules, w.fed_text.ensures))
    ] in
    let some : 0 < length c.text-value.result.now = grind (arith, nat_tests) in
    pushed_prefix element_view _ _ _ (text c.text-value.result.now) (lines c.args.common done) before c.in_ok-push-2.ensures.items (view_text c.text-value.result)
    ∙ ap backwards (ap (λ w. w ++ lines c.args.common done) (sym (not_empty c.text-value.result.now some)) ∙ words_alone c.args.common c.args.words.now done c.text-value.result.now alone c.text-value.ensures)
