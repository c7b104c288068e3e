-- The content of a part of the code, by its case.
use Rattle.std.proofs.Common.{◌≡◌, ℕ, List, Bor, rules, ap, ◌∙◌}
use Rattle.fluent_ast.specs.Tree.{inline, number, placeable, string, text, variable}
use Rattle.fluent_ast.specs.View.{element_view, expression_view, inline_view}
use Rattle.fluent_ast.specs.declared.ast.Identifier.{Identifier}
use Rattle.fluent_ast.specs.declared.ast.PatternElement as of_pattern_element
use Rattle.fluent_ast.specs.declared.ast.PatternElement.TheVariants as elements
use Rattle.fluent_ast.specs.declared.ast.Expression as of_expression
use Rattle.fluent_ast.specs.declared.ast.Expression.TheVariants as expressions
use Rattle.fluent_ast.specs.declared.ast.InlineExpression as of_inline
use Rattle.fluent_ast.specs.declared.ast.InlineExpression.TheVariants as inlines

a_text : (t : Bor (List ℕ)) → element_view (elements.TextElement t) ≡ text t.now
a_text t = search (rules, of_pattern_element.the_lemmas)

pub text_is : (x : of_pattern_element.PatternElement) (t : Bor (List ℕ)) → x ≡ elements.TextElement t → element_view x ≡ text t.now
text_is x t h = ap element_view h ∙ a_text t

a_placeable : (e : of_expression.Expression) → element_view (elements.Placeable e) ≡ placeable (expression_view e)
a_placeable e = search (rules, of_pattern_element.the_lemmas)

pub placeable_is : (x : of_pattern_element.PatternElement) (e : of_expression.Expression) → x ≡ elements.Placeable e → element_view x ≡ placeable (expression_view e)
placeable_is x e h = ap element_view h ∙ a_placeable e

an_inline : (x : of_inline.InlineExpression) → expression_view (expressions.Inline x) ≡ inline (inline_view x)
an_inline x = search (rules, of_expression.the_lemmas)

pub inline_is : (e : of_expression.Expression) (x : of_inline.InlineExpression) → e ≡ expressions.Inline x → expression_view e ≡ inline (inline_view x)
inline_is e x h = ap expression_view h ∙ an_inline x

a_string : (t : Bor (List ℕ)) → inline_view (inlines.StringLiteral t) ≡ string t.now
a_string t = search (rules, of_inline.the_lemmas)

pub string_is : (x : of_inline.InlineExpression) (t : Bor (List ℕ)) → x ≡ inlines.StringLiteral t → inline_view x ≡ string t.now
string_is x t h = ap inline_view h ∙ a_string t

a_number : (t : Bor (List ℕ)) → inline_view (inlines.NumberLiteral t) ≡ number t.now
a_number t = search (rules, of_inline.the_lemmas)

pub number_is : (x : of_inline.InlineExpression) (t : Bor (List ℕ)) → x ≡ inlines.NumberLiteral t → inline_view x ≡ number t.now
number_is x t h = ap inline_view h ∙ a_number t

a_variable : (id : Identifier) → inline_view (inlines.VariableReference id) ≡ variable id.name.now
a_variable id = search (rules, of_inline.the_lemmas)

pub variable_is : (x : of_inline.InlineExpression) (id : Identifier) → x ≡ inlines.VariableReference id → inline_view x ≡ variable id.name.now
variable_is x id h = ap inline_view h ∙ a_variable id
