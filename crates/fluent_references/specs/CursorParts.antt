-- What each case of the tree refers to, by what its parts refer to.
use Rattle.std.specs.Prelude.{◌≡◌, [], ◌∷◌, ◌++◌, Vec, Box, Option, None, Some}
use Rattle.std.specs.declared.alloc.Global.{Global}
use Rattle.std.proofs.Common.{rules, ap, ◌∙◌}
use Rattle.fluent_ast.specs.View.{arguments_view, call_view, element_view, expression_view, inline_view, pattern_view}
use Rattle.fluent_ast.specs.References.{a_message, a_term, a_function, references, in_element, in_expression, in_inline, in_call, in_arguments}
use Rattle.fluent_ast.specs.ReferencesOf.{of_inlines, of_nameds, of_variants}
use Rattle.fluent_ast.specs.declared.ast.Identifier.{Identifier}
use Rattle.fluent_ast.specs.declared.ast.Pattern as of_pattern
use Rattle.fluent_ast.specs.declared.ast.PatternElement as of_pattern_element
use Rattle.fluent_ast.specs.declared.ast.PatternElement.TheVariants as elements
use Rattle.fluent_ast.specs.declared.ast.Expression as of_expression
use Rattle.fluent_ast.specs.declared.ast.Expression.TheVariants as expressions
use Rattle.fluent_ast.specs.declared.ast.InlineExpression as of_inline
use Rattle.fluent_ast.specs.declared.ast.InlineExpression.TheVariants as inlines
use Rattle.fluent_ast.specs.declared.ast.CallArguments as of_call
use Rattle.fluent_ast.specs.declared.ast.Variant.{Variant}
use Rattle.fluent_references.specs.CursorSteps.{in_elements}

-- a pattern: its elements
pub in_pattern_is : (p : of_pattern.Pattern) → references (pattern_view p) ≡ in_elements p.elements.items
in_pattern_is p = search (rules, of_pattern.the_lemmas)

in_placeable : (e : of_expression.Expression) → in_element (element_view (elements.Placeable e)) ≡ in_expression (expression_view e)
in_placeable e = search (rules, of_pattern_element.the_lemmas)

pub in_placeable_is : (x : of_pattern_element.PatternElement) (e : of_expression.Expression) → x ≡ elements.Placeable e → in_element (element_view x) ≡ in_expression (expression_view e)
in_placeable_is x e h = ap (λ x. in_element (element_view x)) h ∙ in_placeable e

in_one : (x : of_inline.InlineExpression) → in_expression (expression_view (expressions.Inline x)) ≡ in_inline (inline_view x)
in_one x = search (rules, of_expression.the_lemmas)

pub in_one_is : (e : of_expression.Expression) (x : of_inline.InlineExpression) → e ≡ expressions.Inline x → in_expression (expression_view e) ≡ in_inline (inline_view x)
in_one_is e x h = ap (λ e. in_expression (expression_view e)) h ∙ in_one x

in_select : (x : of_inline.InlineExpression) (vs : Vec Variant Global) → in_expression (expression_view (expressions.Select x vs)) ≡ in_inline (inline_view x) ++ of_variants vs.items
in_select x vs = search (rules, of_expression.the_lemmas)

-- a select: its selector and then its variants
pub in_select_is : (e : of_expression.Expression) (x : of_inline.InlineExpression) (vs : Vec Variant Global) → e ≡ expressions.Select x vs → in_expression (expression_view e) ≡ in_inline (inline_view x) ++ of_variants vs.items
in_select_is e x vs h = ap (λ e. in_expression (expression_view e)) h ∙ in_select x vs

in_function : (id : Identifier) (b : Box of_call.CallArguments Global) → in_inline (inline_view (inlines.FunctionReference id b)) ≡ a_function id.name.now ∷ in_arguments (arguments_view b.value)
in_function id b = search (rules, of_inline.the_lemmas)

-- a function: itself and then its arguments
pub in_function_is : (x : of_inline.InlineExpression) (id : Identifier) (b : Box of_call.CallArguments Global) → x ≡ inlines.FunctionReference id b → in_inline (inline_view x) ≡ a_function id.name.now ∷ in_arguments (arguments_view b.value)
in_function_is x id b h = ap (λ x. in_inline (inline_view x)) h ∙ in_function id b

in_message : (id : Identifier) (a : Option Identifier) → in_inline (inline_view (inlines.MessageReference id a)) ≡ a_message id.name.now ∷ []
in_message id a = search (rules, of_inline.the_lemmas)

pub in_message_is : (x : of_inline.InlineExpression) (id : Identifier) (a : Option Identifier) → x ≡ inlines.MessageReference id a → in_inline (inline_view x) ≡ a_message id.name.now ∷ []
in_message_is x id a h = ap (λ x. in_inline (inline_view x)) h ∙ in_message id a

in_bare_term : (id : Identifier) (a : Option Identifier) → in_inline (inline_view (inlines.TermReference id a None)) ≡ a_term id.name.now ∷ in_call (call_view None)
in_bare_term id a = search (rules, of_inline.the_lemmas)

in_called_term : (id : Identifier) (a : Option Identifier) (c : Box of_call.CallArguments Global) → in_inline (inline_view (inlines.TermReference id a (Some c))) ≡ a_term id.name.now ∷ in_call (call_view (Some c))
in_called_term id a c = search (rules, of_inline.the_lemmas)

in_term : (id : Identifier) (a : Option Identifier) (c : Option (Box of_call.CallArguments Global)) → in_inline (inline_view (inlines.TermReference id a c)) ≡ a_term id.name.now ∷ in_call (call_view c)
in_term id a None = in_bare_term id a
in_term id a (Some c) = in_called_term id a c

-- a term: itself and then its arguments, if any
pub in_term_is : (x : of_inline.InlineExpression) (id : Identifier) (a : Option Identifier) (c : Option (Box of_call.CallArguments Global)) → x ≡ inlines.TermReference id a c → in_inline (inline_view x) ≡ a_term id.name.now ∷ in_call (call_view c)
in_term_is x id a c h = ap (λ x. in_inline (inline_view x)) h ∙ in_term id a c

in_nested : (b : Box of_expression.Expression Global) → in_inline (inline_view (inlines.Placeable b)) ≡ in_expression (expression_view b.value)
in_nested b = search (rules, of_inline.the_lemmas)

pub in_nested_is : (x : of_inline.InlineExpression) (b : Box of_expression.Expression Global) → x ≡ inlines.Placeable b → in_inline (inline_view x) ≡ in_expression (expression_view b.value)
in_nested_is x b h = ap (λ x. in_inline (inline_view x)) h ∙ in_nested b

-- arguments: the positional ones and then the named ones
pub in_arguments_is : (a : of_call.CallArguments) → in_arguments (arguments_view a) ≡ of_inlines (of_call.out-CallArguments a).positional.items ++ of_nameds (of_call.out-CallArguments a).named.items
in_arguments_is a = search (rules, of_call.the_lemmas, of_call.fold_out-CallArguments)
