-- What is made of the values of arguments.
use Rattle.std.proofs.Common.{◌≡◌, refl, sym, ap, ◌∙◌, List, [], ◌++◌, Option, Some, None, Bool}
use Rattle.std.specs.Option.{option_map, unwrap_or}
use Rattle.fluent_ast.specs.Fallback.{fallback, in_braces}
use Rattle.fluent_ast.specs.Tree.{Text, Inline}
use Rattle.fluent_semantics.specs.Ahead.{Next, after, ahead, comes}
use Rattle.fluent_semantics.specs.Arguments.{Map}
use Rattle.fluent_semantics.specs.Bundle.{Bundle, Function}
use Rattle.fluent_semantics.specs.Errors.{Error, Reference, reference_of}
use Rattle.fluent_semantics.specs.Events.{tells, writes}
use Rattle.fluent_semantics.specs.Meaning.{Budget}
use Rattle.fluent_semantics.specs.Value.{Value, custom_value, error_value, no_value, number_value, text_value}
use Rattle.fluent_semantics.specs.Walk as walk
use Rattle.fluent_semantics.specs.Walk.{Environment, application}
use Rattle.fluent_resolver_state.specs.Happened.{answer_events, lost_error, lost_of, shown_answer}
use Rattle.fluent_values.specs.View.{value_view}
use Rattle.fluent_values.specs.declared.types.value.FluentValue.{FluentValue}
use Rattle.fluent_values.specs.declared.types.value.FluentValue.TheVariants as values
use Rattle.fluent_resolver.specs.Inside.Parts.{Following, View, answered, tells_and_puts}

-- ---- a function's answer, written

-- of one that there is not, its error
abbrev pub answer_errors : Inline → Option (Value Text) → List Error
answer_errors x None = lost_of x
answer_errors x (Some y) = []

abbrev pub answer_text : Bundle Text → Inline → Option (Value Text) → Text
answer_text b x None = in_braces (fallback x)
answer_text b x (Some y) = shown_answer b x y

pub answer_is : (b : Bundle Text) (x : Inline) (o : Option (Value Text)) → answer_events b x o ≡ tells (answer_errors x o) ++ writes (answer_text b x o)
answer_is b x None = refl
answer_is b x (Some y) = refl

-- what can't be found: its error, if it has one, and then its fallback
pub loses_is : (b : Bundle Text) (env : Environment Text) (r : Option Reference) (t : Text) (w : Bool) (k : Next Text Text) (n : Budget) → walk.loses_as (ahead Text) b (comes b) env r t w k n ≡ after (tells (lost_error r)) (k t n)
loses_is b env None t w k n = refl
loses_is b env (Some r) t w k n = refl

pub answered_is : (x : Inline) (o : Option (Function Text)) (vs : List (Value Text)) (m : Map (Value Text)) (b : Bundle Text) (k : Following) (v : View) → answered x o vs m b k v ≡ tells_and_puts (answer_errors x (option_map (λ f. f vs m) o)) (answer_text b x (option_map (λ f. f vs m) o)) b k v
answered_is x None vs m b k v = loses_is b v.environment (reference_of x) (in_braces (fallback x)) _ _ v.budget
answered_is x (Some f) vs m b k v = by (f vs m)
  where
    by : (y : Value Text) → answered x (Some (λ ws es. y)) vs m b k v ≡ tells_and_puts [] (shown_answer b x y) b k v
    by (text_value t) = refl
    by (number_value n) = refl
    by (custom_value t) = refl
    by no_value = refl
    by error_value = refl

-- ---- its value

-- an error where there is none
answered_value : {C : Type 0} (content : C → Text) (b : Bundle Text) (q : Option (Function Text)) (vs : List (Value Text)) (m : Map (Value Text)) (o : Option (FluentValue C)) → option_map (value_view content) o ≡ option_map (λ f. f vs m) q → value_view content (unwrap_or o values.Error) ≡ walk.function_value (ahead Text) b (comes b) (application []) q vs m
answered_value content b None vs m None h = refl
answered_value content b (Some f) vs m None h = cc
answered_value content b None vs m (Some y) h = cc
answered_value content b (Some f) vs m (Some y) h = cc

-- of an answer that there is
pub answered_some : {C : Type 0} (content : C → Text) (b : Bundle Text) (q : Option (Function Text)) (vs : List (Value Text)) (m : Map (Value Text)) (o : Option (FluentValue C)) → option_map (value_view content) o ≡ option_map (λ f. f vs m) q → (y : FluentValue C) → o ≡ Some y → value_view content y ≡ walk.function_value (ahead Text) b (comes b) (application []) q vs m
answered_some content b q vs m o h y is = ap (λ r. value_view content (unwrap_or r values.Error)) (sym is) ∙ answered_value content b q vs m o h

-- of none
pub answered_none : {C : Type 0} (content : C → Text) (b : Bundle Text) (q : Option (Function Text)) (vs : List (Value Text)) (m : Map (Value Text)) (o : Option (FluentValue C)) → option_map (value_view content) o ≡ option_map (λ f. f vs m) q → o ≡ None → value_view {C = C} content values.Error ≡ walk.function_value (ahead Text) b (comes b) (application []) q vs m
answered_none content b q vs m o h is = ap (λ r. value_view content (unwrap_or r values.Error)) (sym is) ∙ answered_value content b q vs m o h
