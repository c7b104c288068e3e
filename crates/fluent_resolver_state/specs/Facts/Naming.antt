-- What names come to, outside terms and in them.
use Rattle.std.proofs.Common.{◌≡◌, refl, sym, ap, ◌∙◌, [], Option, Some, None}
use Rattle.fluent_ast.specs.Tree.{Text, Inline}
use Rattle.fluent_semantics.specs.Arguments.{Map, get}
use Rattle.fluent_semantics.specs.Bundle.{Bundle, shown}
use Rattle.fluent_semantics.specs.Events.{writes}
use Rattle.fluent_semantics.specs.Value.{Value}
use Rattle.fluent_semantics.specs.Walk.{Environment, application, local, variables}
use Rattle.fluent_resolver_state.specs.Happened.{lost_of, lost_events, shown_answer, variable_errors, variable_events}
use Rattle.fluent_resolver_state.specs.Locals.{shown_or_fallback}
use Rattle.fluent_values.specs.View.{value_view}
use Rattle.fluent_values.specs.declared.types.value.FluentValue.{FluentValue}
use Rattle.fluent_values.specs.declared.types.value.FluentValue.TheVariants as values

-- a name without a value is no error in a term
pub none_told : (env : Environment Text) (m : Map (Value Text)) (x : Inline) (o : Option (Value Text)) → env ≡ local m → variable_errors env x o ≡ []
none_told env m x o is = ap (λ e. variable_errors e x o) is ∙ by o
  where
    by : (o : Option (Value Text)) → variable_errors (local m) x o ≡ []
    by None = refl
    by (Some v) = refl

pub shown_in_term : (b : Bundle Text) (env : Environment Text) (m : Map (Value Text)) (x : Inline) (id : Text) → env ≡ local m → writes (shown_or_fallback b x (get id m)) ≡ variable_events b env x (get id (variables env))
shown_in_term b env m x id is = by (get id m) ∙ ap (λ e. variable_events b e x (get id (variables e))) (sym is)
  where
    by : (o : Option (Value Text)) → writes (shown_or_fallback b x o) ≡ variable_events b (local m) x o
    by None = refl
    by (Some v) = refl

-- outside a term it is
pub errors_outside : (env : Environment Text) (m : Map (Value Text)) (x : Inline) (id : Text) → env ≡ application m → get id m ≡ None → lost_of x ≡ variable_errors env x (get id (variables env))
errors_outside env m x id is none = sym (ap (λ e. variable_errors e x (get id (variables e))) is ∙ ap (variable_errors (application m) x) none)

pub events_outside : (b : Bundle Text) (env : Environment Text) (m : Map (Value Text)) (x : Inline) (id : Text) → env ≡ application m → get id m ≡ None → lost_events x ≡ variable_events b env x (get id (variables env))
events_outside b env m x id is none = sym (ap (λ e. variable_events b e x (get id (variables e))) is ∙ ap (variable_events b (application m) x) none)

pub no_error : {C : Type 0} (content : C → Text) (b : Bundle Text) (x : Inline) (v : FluentValue C) → (v ≡ values.Error → ⊥) → shown b (value_view content v) ≡ shown_answer b x (value_view content v)
no_error content b x (values.String s) h = refl
no_error content b x (values.Number n) h = refl
no_error content b x (values.Custom y) h = refl
no_error content b x values.None h = refl
no_error content b x values.Error h = absurd (h refl)
