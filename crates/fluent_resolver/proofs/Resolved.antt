-- Values, by what has them.
use Rattle.std.proofs.Common.{◌≡◌, refl, sym, ap, ◌∙◌, ℕ, Option, Some, None, false}
use Rattle.std.specs.Option.{unwrap_or}
use Rattle.fluent_ast.specs.Fallback.{fallback, in_braces}
use Rattle.fluent_ast.specs.Tree.{Text, Inline, string, number, function, message, term, variable, nested, Arguments}
use Rattle.fluent_text.specs.Escapes.{unescaped}
use Rattle.fluent_semantics.specs.Ahead.{Rest, ahead, begins, comes}
use Rattle.fluent_semantics.specs.Arguments.{get}
use Rattle.fluent_semantics.specs.Bundle.{Bundle}
use Rattle.fluent_semantics.specs.Errors.{Reference, reference_of}
use Rattle.fluent_semantics.specs.Events.{tells}
use Rattle.fluent_semantics.specs.Value.{Value, error_value, text_value, try_number}
use Rattle.fluent_semantics.specs.Walk as walk
use Rattle.fluent_semantics.specs.Walk.{Environment, application, elements, local, variables}
use Rattle.fluent_resolver_state.specs.Happened.{Happened, lost_error, variable_errors}
use Rattle.fluent_resolver_state.specs.Status.{Status}
use Rattle.fluent_resolver_state.specs.Written.{IsWritten}
use Rattle.fluent_values.specs.Sinks.{Sink}
use Rattle.fluent_resolver.specs.Frames.{Along}
use Rattle.fluent_resolver.specs.Inside.Parts as parts
use Rattle.fluent_resolver.specs.Inside.Parts.{Following, View, value_then}
use Rattle.fluent_resolver.proofs.Going.{passes, starts}

resolved_string : (t : Text) (b : Bundle Text) (k : Following) (v : View) → parts.resolved (string t) b k v ≡ k (Some (text_value (unescaped t))) v
unfolding elements
resolved_string t b k v = refl

pub string_at : (x : Inline) (t : Text) (y : Value Text) (b : Bundle Text) (k : Following) (v : View) → x ≡ string t → y ≡ text_value (unescaped t) → parts.resolved x b k v ≡ k (Some y) v
string_at x t y b k v is same = ap (λ x. parts.resolved x b k v) is ∙ resolved_string t b k v ∙ ap (λ y. k (Some y) v) (sym same)

resolved_number : (t : Text) (b : Bundle Text) (k : Following) (v : View) → parts.resolved (number t) b k v ≡ k (Some (try_number t)) v
unfolding elements
resolved_number t b k v = refl

pub number_at : (x : Inline) (t : Text) (y : Value Text) (b : Bundle Text) (k : Following) (v : View) → x ≡ number t → y ≡ try_number t → parts.resolved x b k v ≡ k (Some y) v
number_at x t y b k v is same = ap (λ x. parts.resolved x b k v) is ∙ resolved_number t b k v ∙ ap (λ y. k (Some y) v) (sym same)

resolved_function : (f : Text) (a : Arguments) (b : Bundle Text) (k : Following) (v : View) → parts.resolved (function f a) b k v ≡ parts.calls (parts.gives f) a b k v
unfolding elements
resolved_function f a b k v = refl

pub function_at : (x : Inline) (f : Text) (a : Arguments) (b : Bundle Text) (k : Following) (v : View) → x ≡ function f a → parts.resolved x b k v ≡ parts.calls (parts.gives f) a b k v
function_at x f a b k v is = ap (λ x. parts.resolved x b k v) is ∙ resolved_function f a b k v

-- what gives a text, which is kept
pub kept_at : (x : Inline) (b : Bundle Text) (k : Following) (v : View) → IsWritten x → parts.resolved x b k v ≡ parts.kept x b k v
unfolding elements
kept_at (string t) b k v h = absurd h
kept_at (number t) b k v h = absurd h
kept_at (function f a) b k v h = absurd h
kept_at (message m a) b k v h = refl
kept_at (term t a c) b k v h = refl
kept_at (variable x) b k v h = absurd h
kept_at (nested e) b k v h = refl

-- ---- variables

resolved_variable : (id : Text) (b : Bundle Text) (k : Following) (v : View) → parts.resolved (variable id) b k v ≡ walk.variable_value (ahead Text) b (comes b) v.environment (variable id) (get id (variables v.environment)) false (value_then k v) v.budget
unfolding elements
resolved_variable id b k v = refl

pub variable_at : (x : Inline) (id : Text) (b : Bundle Text) (k : Following) (v : View) → x ≡ variable id → parts.resolved x b k v ≡ walk.variable_value (ahead Text) b (comes b) v.environment x (get id (variables v.environment)) false (value_then k v) v.budget
variable_at x id b k v is =
    ap (λ x. parts.resolved x b k v) is
    ∙ resolved_variable id b k v
    ∙ ap (λ x. walk.variable_value (ahead Text) b (comes b) v.environment x (get id (variables v.environment)) false (value_then k v) v.budget) (sym is)

-- its value, with its error where it has none
pub looked_up : {B : Type 0} {before : Rest Text} {n n' : ℕ} {w w' : Sink} {s a a' : Status B} (b : Bundle Text) (k : Following) (v : View) (x : Inline) (o : Option (Value Text))
    → Happened (tells (variable_errors v.environment x o)) w' w' a a'
    → Along before n (walk.variable_value (ahead Text) b (comes b) v.environment x o false (value_then k v) v.budget) n' w w' s a
    → Along before n (k (Some (unwrap_or o error_value)) v) n' w w' s a'
looked_up b k v x (Some y) j h = passes j h
looked_up {before = before} {n} {n'} {w} {w'} {s} {a} {a'} b k v x None j h = by v.environment j h
  where
    lost : (r : Option Reference) → Happened (tells (lost_error r)) w' w' a a' → Along before n (begins (walk.loses_as (ahead Text) b (comes b) v.environment r (in_braces (fallback x)) false (λ t c. value_then k v error_value c) v.budget)) n' w w' s a → Along before n (k (Some error_value) v) n' w w' s a'
    lost None j h = passes j (starts h)
    lost (Some r) j h = passes j (starts h)

    by : (env : Environment Text) → Happened (tells (variable_errors env x None)) w' w' a a' → Along before n (walk.variable_value (ahead Text) b (comes b) env x None false (value_then k v) v.budget) n' w w' s a → Along before n (k (Some error_value) v) n' w w' s a'
    by (application m) j h = lost (reference_of x) j h
    by (local m) j h = passes j (starts h)
