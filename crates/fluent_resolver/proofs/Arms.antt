-- An arm of a match on an expression that can't be taken.
use Rattle.std.proofs.Common.{◌≡◌, refl, ap, sym, subst, ◌∙◌, Option, Box, Global}
use Rattle.fluent_ast.specs.View.{inline_view}
use Rattle.fluent_ast.specs.declared.ast.CallArguments as of_call
use Rattle.fluent_ast.specs.declared.ast.Expression as of_expression
use Rattle.fluent_ast.specs.declared.ast.Identifier.{Identifier}
use Rattle.fluent_ast.specs.declared.ast.InlineExpression as of_inline
use Rattle.fluent_ast.specs.declared.ast.InlineExpression.TheVariants as inlines
use Rattle.fluent_ast.specs.declared.ast.Expression.TheOpen as level
use Rattle.fluent_ast.specs.declared.ast.NamedArgument as of_named
use Rattle.fluent_ast.specs.declared.ast.Pattern as of_pattern
use Rattle.fluent_ast.specs.declared.ast.PatternElement as of_element
use Rattle.fluent_ast.specs.declared.ast.Variant.{Variant}
use Rattle.fluent_resolver_state.specs.Facts.Views.{view_function_in, view_message_in, view_nested_in, view_number_in, view_string_in, view_term_in, view_variable_in}
use Rattle.fluent_resolver.specs.Inside.Parts.{IsFunction, IsMessage, IsTerm}

abbrev Level : Type 0
Level = level.InlineExpression-F of_expression.Expression of_inline.InlineExpression of_element.PatternElement of_call.CallArguments of_named.NamedArgument of_pattern.Pattern Variant

-- what is no message reference is none
pub no_message : (x : of_inline.InlineExpression) → ((id : Identifier) (a : Option Identifier) → x ≡ inlines.MessageReference id a → ⊥) → IsMessage (inline_view x) → ⊥
no_message x none is = by_case (of_inline.out-InlineExpression x) refl
  where
    made : (o : Level) → of_inline.out-InlineExpression x ≡ o → x ≡ of_inline.roll-InlineExpression o
    made o h = sym (of_inline.roll-out-InlineExpression x) ∙ ap of_inline.roll-InlineExpression h

    by_case : (o : Level) → of_inline.out-InlineExpression x ≡ o → ⊥
    by_case (level.StringLiteral t) h = subst IsMessage (view_string_in x t (made _ h ∙ inlines.rolls-StringLiteral t)) is
    by_case (level.NumberLiteral t) h = subst IsMessage (view_number_in x t (made _ h ∙ inlines.rolls-NumberLiteral t)) is
    by_case (level.FunctionReference id a) h = subst IsMessage (view_function_in x id a (made _ h ∙ inlines.rolls-FunctionReference id a)) is
    by_case (level.MessageReference id a) h = none id a (made _ h ∙ inlines.rolls-MessageReference id a)
    by_case (level.TermReference id a c) h = subst IsMessage (view_term_in x id a c (made _ h ∙ inlines.rolls-TermReference id a c)) is
    by_case (level.VariableReference id) h = subst IsMessage (view_variable_in x id (made _ h ∙ inlines.rolls-VariableReference id)) is
    by_case (level.InlineExpression::Placeable b) h = subst IsMessage (view_nested_in x b (made _ h ∙ inlines.rolls-Placeable b)) is

-- what is no term reference is none
pub no_term : (x : of_inline.InlineExpression) → ((id : Identifier) (a : Option Identifier) (c : Option (Box of_call.CallArguments Global)) → x ≡ inlines.TermReference id a c → ⊥) → IsTerm (inline_view x) → ⊥
no_term x none is = by_case (of_inline.out-InlineExpression x) refl
  where
    made : (o : Level) → of_inline.out-InlineExpression x ≡ o → x ≡ of_inline.roll-InlineExpression o
    made o h = sym (of_inline.roll-out-InlineExpression x) ∙ ap of_inline.roll-InlineExpression h

    by_case : (o : Level) → of_inline.out-InlineExpression x ≡ o → ⊥
    by_case (level.StringLiteral t) h = subst IsTerm (view_string_in x t (made _ h ∙ inlines.rolls-StringLiteral t)) is
    by_case (level.NumberLiteral t) h = subst IsTerm (view_number_in x t (made _ h ∙ inlines.rolls-NumberLiteral t)) is
    by_case (level.FunctionReference id a) h = subst IsTerm (view_function_in x id a (made _ h ∙ inlines.rolls-FunctionReference id a)) is
    by_case (level.MessageReference id a) h = subst IsTerm (view_message_in x id a (made _ h ∙ inlines.rolls-MessageReference id a)) is
    by_case (level.TermReference id a c) h = none id a c (made _ h ∙ inlines.rolls-TermReference id a c)
    by_case (level.VariableReference id) h = subst IsTerm (view_variable_in x id (made _ h ∙ inlines.rolls-VariableReference id)) is
    by_case (level.InlineExpression::Placeable b) h = subst IsTerm (view_nested_in x b (made _ h ∙ inlines.rolls-Placeable b)) is

-- what is no call of a function is none
pub no_function : (x : of_inline.InlineExpression) → ((id : Identifier) (b : Box of_call.CallArguments Global) → x ≡ inlines.FunctionReference id b → ⊥) → IsFunction (inline_view x) → ⊥
no_function x none is = by_case (of_inline.out-InlineExpression x) refl
  where
    made : (o : Level) → of_inline.out-InlineExpression x ≡ o → x ≡ of_inline.roll-InlineExpression o
    made o h = sym (of_inline.roll-out-InlineExpression x) ∙ ap of_inline.roll-InlineExpression h

    by_case : (o : Level) → of_inline.out-InlineExpression x ≡ o → ⊥
    by_case (level.StringLiteral t) h = subst IsFunction (view_string_in x t (made _ h ∙ inlines.rolls-StringLiteral t)) is
    by_case (level.NumberLiteral t) h = subst IsFunction (view_number_in x t (made _ h ∙ inlines.rolls-NumberLiteral t)) is
    by_case (level.FunctionReference id a) h = none id a (made _ h ∙ inlines.rolls-FunctionReference id a)
    by_case (level.MessageReference id a) h = subst IsFunction (view_message_in x id a (made _ h ∙ inlines.rolls-MessageReference id a)) is
    by_case (level.TermReference id a c) h = subst IsFunction (view_term_in x id a c (made _ h ∙ inlines.rolls-TermReference id a c)) is
    by_case (level.VariableReference id) h = subst IsFunction (view_variable_in x id (made _ h ∙ inlines.rolls-VariableReference id)) is
    by_case (level.InlineExpression::Placeable b) h = subst IsFunction (view_nested_in x b (made _ h ∙ inlines.rolls-Placeable b)) is
