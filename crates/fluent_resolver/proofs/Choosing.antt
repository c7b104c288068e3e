-- The variant that a value goes to.
use Rattle.std.proofs.Common.{◌≡◌, refl, sym, ap, ◌∙◌, ℕ, true, false, if◌then◌else◌, List, [], Option, Some, None, Result, Ok}
use Rattle.fluent_ast.specs.Fallback.{fallback, in_braces}
use Rattle.fluent_ast.specs.Tree.{Text, Pattern, Inline, Variants, variant, no_variants, select, variable}
use Rattle.fluent_semantics.specs.Arguments.{get}
use Rattle.fluent_semantics.specs.Bundle.{Bundle, goes_to}
use Rattle.fluent_semantics.specs.Errors.{Reference, missing_default, reference_of}
use Rattle.fluent_semantics.specs.Events.{tells}
use Rattle.fluent_semantics.specs.Meaning.{Budget}
use Rattle.fluent_semantics.specs.Value.{Value, error_value}
use Rattle.std.specs.Option.{unwrap_or}
use Rattle.fluent_semantics.specs.Walk.{Environment, Steps, application, default_of, elements, local, loses_as, matched, missing, resolved, variable_value, variables, whole}
use Rattle.fluent_semantics.specs.Ahead.{Values, Next, Rest, after, ahead, begins, comes}
use Rattle.fluent_resolver_state.specs.Choice.{choice, first_default}
use Rattle.fluent_resolver_state.specs.Happened.{lost_error, missing_errors, variable_errors}
use Rattle.fluent_resolver_state.specs.Status.{Status}
use Rattle.fluent_resolver_state.specs.Steps.{ReportsIfOk}
use Rattle.fluent_values.specs.Sinks.{Sink}
use Rattle.fluent_resolver.specs.Frames.{Along, selector_value}
use Rattle.fluent_resolver.specs.Inside.Parts as parts
use Rattle.fluent_resolver.specs.Inside.Parts.{View, Following, text_then, value_then, writes_now}
use Rattle.fluent_resolver.proofs.Going.{starts, turns}
use Rattle.fluent_resolver.proofs.Telling.{tells_first}

module _ {C : Type 0} (S : Steps) (b : Bundle C) (below : Environment C → List Pattern → Pattern → S.M Text) (env : Environment C) (path : List Pattern) where
  -- what a variant that was chosen gives, or none
  abbrev pub meant : Option Pattern → S.M Text
  meant None = S.fails missing_default []
  meant (Some p) = whole S b below env path p

  default_meant : (vs : Variants) → default_of S b below env path vs ≡ meant (first_default vs)
  unfolding elements
  default_meant no_variants = refl
  default_meant (variant k p true vs) = refl
  default_meant (variant k p false vs) = default_meant vs

  matched_meant : (v : Value C) (m : S.M Text) (o : Option Pattern) (vs : Variants) → m ≡ meant o → matched S b below env path v m vs ≡ meant (choice (goes_to b v) o vs)
  unfolding elements
  matched_meant v m o no_variants h = h
  matched_meant v m o (variant k p d vs) h =
      elim (goes_to b v k) as (λ y. elim y as (λ z. S.M Text) [ true ↦ whole S b below env path p | false ↦ matched S b below env path v m vs ] ≡ meant (if y then Some p else choice (goes_to b v) o vs)) [
        | true ↦ refl
        | false ↦ matched_meant v m o vs h
      ]

  pub matched_is : (v : Value C) (vs : Variants) → matched S b below env path v (default_of S b below env path vs) vs ≡ meant (choice (goes_to b v) (first_default vs) vs)
  matched_is v vs = matched_meant v (default_of S b below env path vs) (first_default vs) vs (default_meant vs)

meant_ahead : (o : Option Pattern) (b : Bundle Text) (k : Following) (v : View) → meant (ahead Text) b (comes b) v.environment v.path o (writes_now v) (text_then k v) v.budget ≡ parts.chosen o b k v
meant_ahead None b k v = refl
meant_ahead (Some p) b k v = refl

-- what is ahead of the variant that a value goes to
pub chosen_ahead : (vs : Variants) (x : Value Text) (o : Option Pattern) (b : Bundle Text) (k : Following) (v : View) → o ≡ choice (goes_to b x) (first_default vs) vs → parts.matched vs x b k v ≡ parts.chosen o b k v
chosen_ahead vs x o b k v is =
    ap (λ m. m (writes_now v) (text_then k v) v.budget) (matched_is (ahead Text) b (comes b) v.environment v.path x vs)
    ∙ meant_ahead (choice (goes_to b x) (first_default vs) vs) b k v
    ∙ ap (λ o. parts.chosen o b k v) (sym is)

-- a select: its selector, and then the variant that its value goes to
pub select_ahead : (x : Inline) (vs : Variants) (b : Bundle Text) (k : Following) (v : View) → parts.expression (select x vs) b k v ≡ begins (parts.resolved x b (λ given. parts.matched vs (selector_value given) b k) v)
unfolding elements
select_ahead x vs b k v = refl

-- ---- a variable as a selector

resolved_variable : (b : Bundle Text) (env : Environment Text) (path : List Pattern) (x : Inline) (id : Text) → x ≡ variable id → resolved (ahead Text) b (comes b) env path x ≡ variable_value (ahead Text) b (comes b) env x (get id (variables env))
unfolding elements
resolved_variable b env path x id is =
    ap (λ y. resolved (ahead Text) b (comes b) env path y) is
    ∙ ap (λ y. variable_value (ahead Text) b (comes b) env y (get id (variables env))) (sym is)

module _ {B : Type 0} {before : Rest Text} {n n' : ℕ} {w w1 : Sink} {s a : Status B} (b : Bundle Text) (env : Environment Text) (x : Inline) (budget : Budget) where
  lost_first : (r : Option Reference) (t : Text) (k : Next Text Text) → Along before n (loses_as (ahead Text) b (comes b) env r t false k budget) n' w w1 s a → Along before n (after (tells (lost_error r)) (k t budget)) n' w w1 s a
  lost_first None t k h = h
  lost_first (Some r) t k h = h

  missing_first : (env' : Environment Text) (k : Next Text Text) → Along before n (missing (ahead Text) b (comes b) env env' x false k budget) n' w w1 s a → Along before n (after (tells (missing_errors env' x)) (k (in_braces (fallback x)) budget)) n' w w1 s a
  missing_first (application m) k h = lost_first (reference_of x) (in_braces (fallback x)) k h
  missing_first (local m) k h = h

  value_first : (o : Option (Value Text)) (k : Next Text (Value Text)) → Along before n (variable_value (ahead Text) b (comes b) env x o false k budget) n' w w1 s a → Along before n (after (tells (variable_errors env x o)) (k (unwrap_or o error_value) budget)) n' w w1 s a
  value_first (Some y) k h = h
  value_first None k h = missing_first env (λ t d. k error_value d) (starts h)

-- its errors are told, and then the variant that its value goes to is ahead
select_variable : {B : Type 0} {before : Rest Text} {n n' : ℕ} {w w1 : Sink} {s a : Status B} (b : Bundle Text) (x : Inline) (id : Text) (vs : Variants) (k : Following) (v : View) → x ≡ variable id
    → Along before n (parts.expression (select x vs) b k v) n' w w1 s a
    → Along before n (after (tells (variable_errors v.environment x (get id (variables v.environment)))) (parts.matched vs (unwrap_or (get id (variables v.environment)) error_value) b k v)) n' w w1 s a
select_variable b x id vs k v is h =
    let next : Next Text (Value Text) = value_then (λ given. parts.matched vs (selector_value given) b k) v in
    value_first b v.environment x v.budget (get id (variables v.environment)) next
    (turns (ap (λ m. m false next v.budget) (resolved_variable b v.environment v.path x id is)) (starts (turns (select_ahead x vs b k v) h)))

-- the same from a state, to that in which the variant begins
pub select_chosen : {T E B : Type 0} {r : Result T E} {y : T} {before : Rest Text} {n n' : ℕ} {w w1 : Sink} {s a a' : Status B} (x : Inline) (id : Text) (vs : Variants) (o : Option Pattern) (k : Bundle Text → Following) (kept : Option Text) (values : Values Text) → x ≡ variable id → r ≡ Ok y
    → ReportsIfOk r (variable_errors a.environment x (get id (variables a.environment))) a a'
    → o ≡ choice (goes_to a.bundle (unwrap_or (get id (variables a.environment)) error_value)) (first_default vs) vs
    → Along before n (parts.expression (select x vs) a.bundle (k a.bundle) (record { kept = kept; budget = a.budget; environment = a.environment; path = a.path; values = values })) n' w w1 s a
    → Along before n (parts.chosen o a'.bundle (k a'.bundle) (record { kept = kept; budget = a'.budget; environment = a'.environment; path = a'.path; values = values })) n' w w1 s a'
select_chosen {a = a} x id vs o k kept values is was told chosen way =
    let v : View = record { kept = kept; budget = a.budget; environment = a.environment; path = a.path; values = values } in
    let value = get id (variables a.environment) in
    tells_first (λ b env path budget. parts.chosen o b (k b) (record { kept = kept; budget = budget; environment = env; path = path; values = values })) was told
    (turns (ap (after (tells (variable_errors a.environment x value))) (chosen_ahead vs (unwrap_or value error_value) o a.bundle (k a.bundle) v chosen)) (select_variable a.bundle x id vs (k a.bundle) v is way))
