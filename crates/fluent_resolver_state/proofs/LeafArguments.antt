-- Literals and variables among arguments, one after the other.
use Rattle.std.proofs.Common.{◌≡◌, refl, sym, ap, subst, ◌∙◌, ℕ, ◌+◌, ◌<◌, [], List, ◌∷◌, ◌++◌, length, get_or, drop, Option}
use Rattle.std.specs.Borrow.{Bor}
use Rattle.std.specs.Option.{option_map}
use Rattle.fluent_ast.specs.Tree.{Text, Inline}
use Rattle.fluent_ast.specs.View.{inline_view}
use Rattle.fluent_ast.specs.declared.ast.CallArguments as of_call
use Rattle.fluent_ast.specs.declared.ast.Expression as of_expression
use Rattle.fluent_ast.specs.declared.ast.Expression.TheOpen as level
use Rattle.fluent_ast.specs.declared.ast.Identifier.{Identifier}
use Rattle.fluent_ast.specs.declared.ast.InlineExpression as of_inline
use Rattle.fluent_ast.specs.declared.ast.InlineExpression.{InlineExpression}
use Rattle.fluent_ast.specs.declared.ast.InlineExpression.TheVariants as inlines
use Rattle.fluent_ast.specs.declared.ast.NamedArgument as of_named
use Rattle.fluent_ast.specs.declared.ast.Pattern as of_pattern
use Rattle.fluent_ast.specs.declared.ast.PatternElement as of_element
use Rattle.fluent_ast.specs.declared.ast.Variant.{Variant}
use Rattle.fluent_ast.specs.declared.ast.NamedArgument.{NamedArgument}
use Rattle.fluent_semantics.specs.Arguments.{Map, get, set, set_all}
use Rattle.fluent_semantics.specs.Bundle.{Bundle, function_found}
use Rattle.fluent_semantics.specs.Value.{Value, error_value}
use Rattle.fluent_semantics.specs.Walk.{Environment}
use Rattle.fluent_resolver_state.specs.Facts.Lists.{next_of}
use Rattle.fluent_resolver_state.specs.Facts.Views.{view_function_in, view_message_in, view_nested_in, view_term_in}
use Rattle.fluent_resolver_state.specs.Happened.{answer_events}
use Rattle.fluent_resolver_state.specs.Leaves.{errors_of_leaves, errors_of_named_leaves, leaf_errors, leaf_value, leaf_values, named_leaf_values}

-- the next, and then those after it
module _ (env : Environment Text) (xs : List InlineExpression) (i : ℕ) (x : InlineExpression) (h : i < length xs) (is : x ≡ get_or xs i x) where
  pub next_value : leaf_value env (inline_view x) ∷ leaf_values env (drop (i + 1) xs) ≡ leaf_values env (drop i xs)
  next_value = sym (ap (leaf_values env) (next_of xs i x h is))

  pub next_errors : leaf_errors env (inline_view x) ++ errors_of_leaves env (drop (i + 1) xs) ≡ errors_of_leaves env (drop i xs)
  next_errors = sym (ap (errors_of_leaves env) (next_of xs i x h is))

module _ (env : Environment Text) (xs : List NamedArgument) (i : ℕ) (x : NamedArgument) (h : i < length xs) (is : x ≡ get_or xs i x) where
  pub next_named : (m : Map (Value Text)) → set_all (named_leaf_values env (drop (i + 1) xs)) (set x.name.name.now (leaf_value env (inline_view x.value)) m) ≡ set_all (named_leaf_values env (drop i xs)) m
  next_named m = sym (ap (λ ys. set_all (named_leaf_values env ys) m) (next_of xs i x h is))

  pub next_named_errors : leaf_errors env (inline_view x.value) ++ errors_of_named_leaves env (drop (i + 1) xs) ≡ errors_of_named_leaves env (drop i xs)
  next_named_errors = sym (ap (errors_of_named_leaves env) (next_of xs i x h is))

-- ---- what is none

abbrev IsNone : Environment Text → Inline → Type 0
IsNone env x = (leaf_value env x ≡ error_value) × (leaf_errors env x ≡ [])

abbrev Level : Type 0
Level = level.InlineExpression-F of_expression.Expression InlineExpression of_element.PatternElement of_call.CallArguments of_named.NamedArgument of_pattern.Pattern Variant

-- all but a literal and a variable
pub no_leaf : (env : Environment Text) (x : InlineExpression) → ((t : Bor (List ℕ)) → x ≡ inlines.StringLiteral t → ⊥) → ((t : Bor (List ℕ)) → x ≡ inlines.NumberLiteral t → ⊥) → ((id : Identifier) → x ≡ inlines.VariableReference id → ⊥) → IsNone env (inline_view x)
no_leaf env x s n v = by_case (of_inline.out-InlineExpression x) refl
  where
    made : (o : Level) → of_inline.out-InlineExpression x ≡ o → x ≡ of_inline.roll-InlineExpression o
    made o h = sym (of_inline.roll-out-InlineExpression x) ∙ ap of_inline.roll-InlineExpression h

    by_case : (o : Level) → of_inline.out-InlineExpression x ≡ o → IsNone env (inline_view x)
    by_case (level.StringLiteral t) h = absurd (s t (made _ h ∙ inlines.rolls-StringLiteral t))
    by_case (level.NumberLiteral t) h = absurd (n t (made _ h ∙ inlines.rolls-NumberLiteral t))
    by_case (level.FunctionReference id a) h = subst (IsNone env) (sym (view_function_in x id a (made _ h ∙ inlines.rolls-FunctionReference id a))) (refl, refl)
    by_case (level.MessageReference id a) h = subst (IsNone env) (sym (view_message_in x id a (made _ h ∙ inlines.rolls-MessageReference id a))) (refl, refl)
    by_case (level.TermReference id a c) h = subst (IsNone env) (sym (view_term_in x id a c (made _ h ∙ inlines.rolls-TermReference id a c))) (refl, refl)
    by_case (level.VariableReference id) h = absurd (v id (made _ h ∙ inlines.rolls-VariableReference id))
    by_case (level.InlineExpression::Placeable b) h = subst (IsNone env) (sym (view_nested_in x b (made _ h ∙ inlines.rolls-Placeable b))) (refl, refl)

-- ---- what a function answers

-- the same function is asked with the same
pub same_answer : (id : Text) (b d : Bundle Text) (vs ws : List (Value Text)) (m n : Map (Value Text)) → d ≡ b → ws ≡ vs → n ≡ m → option_map (λ f. f ws n) (function_found (get id d.ids)) ≡ option_map (λ f. f vs m) (function_found (get id b.ids))
same_answer id b d vs ws m n same values args =
    ap (λ b. option_map (λ f. f ws n) (function_found (get id b.ids))) same
    ∙ ap (λ vs. option_map (λ f. f vs n) (function_found (get id b.ids))) values
    ∙ ap (λ m. option_map (λ f. f vs m) (function_found (get id b.ids))) args

pub same_events : (x : Inline) (b d : Bundle Text) (o p : Option (Value Text)) → d ≡ b → p ≡ o → answer_events d x p ≡ answer_events b x o
same_events x b d o p same answer = ap (λ b. answer_events b x p) same ∙ ap (answer_events b x) answer
