-- The content of each case of an element.
use Rattle.std.proofs.Common.{◌≡◌, ℕ, List, Vec, Box, Global, Bool, Option, None, map, ap, ◌∙◌, rules}
use Rattle.std.specs.Borrow.{Bor}
use Rattle.fluent_ast.specs.Tree.{text, placeable, pattern_of, inline, variable, message, term, function, no_attribute, no_call}
use Rattle.fluent_ast.specs.View.{element_view, expression_view, inline_view, pattern_view, name_view, attribute_of, arguments_view, named_view, key_view, variant_view}
use Rattle.fluent_ast.specs.declared.ast.Expression as of_expression
use Rattle.fluent_ast.specs.declared.ast.PatternElement as of_element
use Rattle.fluent_ast.specs.declared.ast.PatternElement.TheVariants as elements
use Rattle.fluent_ast.specs.declared.ast.InlineExpression as of_inline
use Rattle.fluent_ast.specs.declared.ast.InlineExpression.TheVariants as inlines
use Rattle.fluent_ast.specs.declared.ast.Expression.TheVariants as expressions
use Rattle.fluent_ast.specs.declared.ast.Identifier.{Identifier}
use Rattle.fluent_ast.specs.declared.ast.Pattern as of_pattern
use Rattle.fluent_ast.specs.declared.ast.CallArguments.{CallArguments}
use Rattle.fluent_ast.specs.declared.ast.NamedArgument as of_named
use Rattle.fluent_ast.specs.declared.ast.Variant as of_variant
use Rattle.fluent_ast.specs.declared.ast.VariantKey as of_key
use Rattle.fluent_ast.specs.declared.ast.Expression.TheViews.{roll-Pattern, roll-NamedArgument, roll-Variant}

pub view_text : (t : Bor (List ℕ)) → element_view (elements.TextElement t) ≡ text t.now
view_text t = search (rules, of_element.the_lemmas)

pub view_placeable : (e : of_expression.Expression) → element_view (elements.Placeable e) ≡ placeable (expression_view e)
view_placeable e = search (rules, of_element.the_lemmas)

pub view_text_in : (x : of_element.PatternElement) (t : Bor (List ℕ)) → x ≡ elements.TextElement t → element_view x ≡ text t.now
view_text_in x t h = ap element_view h ∙ view_text t

pub view_placeable_in : (x : of_element.PatternElement) (e : of_expression.Expression) → x ≡ elements.Placeable e → element_view x ≡ placeable (expression_view e)
view_placeable_in x e h = ap element_view h ∙ view_placeable e

pub view_pattern : (v : Vec of_element.PatternElement Global) → pattern_view (roll-Pattern (record { elements = v })) ≡ pattern_of (map element_view v.items)
view_pattern v = search (rules, of_pattern.the_lemmas)

pub view_inline : (x : of_inline.InlineExpression) → expression_view (expressions.Inline x) ≡ inline (inline_view x)
view_inline x = search (rules, of_expression.the_lemmas)

pub view_variable : (id : Identifier) → inline_view (inlines.VariableReference id) ≡ variable id.name.now
view_variable id = search (rules, of_inline.the_lemmas)

pub view_message : (id : Identifier) → inline_view (inlines.MessageReference id None) ≡ message id.name.now no_attribute
view_message id = search (rules, of_inline.the_lemmas)

pub view_term : (id : Identifier) → inline_view (inlines.TermReference id None None) ≡ term id.name.now no_attribute no_call
view_term id = search (rules, of_inline.the_lemmas)

pub view_reference : (id : Identifier) (a : Option Identifier) → inline_view (inlines.MessageReference id a) ≡ message (name_view id) (attribute_of a)
view_reference id a = search (rules, of_inline.the_lemmas)

pub view_function : (id : Identifier) (b : Box CallArguments Global) → inline_view (inlines.FunctionReference id b) ≡ function (name_view id) (arguments_view b.value)
view_function id b = search (rules, of_inline.the_lemmas)

pub view_named : (id : Identifier) (x : of_inline.InlineExpression) → named_view (roll-NamedArgument (record { name = id; value = x })) ≡ (name_view id, inline_view x)
view_named id x = search (rules, of_named.the_lemmas)

pub view_variant : (k : of_key.VariantKey) (p : of_pattern.Pattern) (d : Bool) → variant_view (roll-Variant (record { key = k; value = p; default = d })) ≡ (key_view k, pattern_view p, d)
view_variant k p d = search (rules, of_variant.the_lemmas)
