use Rattle.std.proofs.Common.{◌≡◌, Some, None, Err, Box, Global, sym, ap, ◌∙◌, subst, rules}
use Rattle.fluent_text.specs.Parser.{otherwise, and_then, pure, ◌<|>◌, ◌<$>◌}
use Rattle.fluent_ast.specs.Tree.{nested}
use Rattle.fluent_ast.specs.View.{inline_view, expression_view}
use Rattle.fluent_ast.specs.declared.ast.Expression.{Expression}
use Rattle.fluent_ast.specs.declared.ast.InlineExpression as of_inline
use Rattle.fluent_ast.specs.declared.ast.InlineExpression.TheVariants.{Placeable}
use Rattle.fluent_syntax.specs.Expressions.{level, term_reference}
use Rattle.fluent_syntax.specs.Inside.Reading.{Gives}
use Rattle.fluent_syntax.proofs.parser.inner.Inner.nameless_expression.Goals as goal

view_nested : (b : Box Expression Global) → inline_view (Placeable b) ≡ nested (expression_view b.value)
view_nested b = search (rules, of_inline.the_lemmas)

pub returns-in-Some : goal.returns-in-Some
returns-in-Some g c =
    let l = level c.args.self.now.depth in
    let s = c.args.s.now in
    ap (λ r. otherwise r (term_reference l <|> (nested <$> l.braces)) s) (sym c.in-Some.ensures)

pub returns-in-Ok : goal.returns-in-Ok
returns-in-Ok g c =
    let l = level c.args.self.now.depth in
    let s = c.args.s.now in
    ap (λ r. otherwise r (term_reference l <|> (nested <$> l.braces)) s) (sym c.in_default.ensures) ∙ ap (λ r. otherwise r (nested <$> l.braces) s) c.in-Ok.ensures

pub returns : goal.returns
returns g c =
    let l = level c.args.self.now.depth in
    let s = c.args.s.now in
    let rest = c.in_ok-inner.rest.now in
    let none : term_reference l s ≡ None = subst (λ e. Gives inline_view (Err e) (term_reference l s)) c.in-Err-Absent.field-0-is c.in-Err-Absent.ensures in
    ap (λ r. otherwise r (term_reference l <|> (nested <$> l.braces)) s) (sym c.in_default.ensures)
    ∙ (ap (λ r. otherwise r (nested <$> l.braces) s) none
    ∙ (ap (λ r. and_then r (λ x. pure (nested x))) (c.requires.braces.reads c.args.self.now.alloc c.args.s _ c.in_ok-inner.ensures)
    ∙ ap (λ x. Some (x, rest)) (ap (λ e. nested (expression_view e)) (sym c.in_ok-expression.ensures.ok) ∙ sym (view_nested c.in_ok-expression.expression))))
