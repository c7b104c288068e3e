-- What the calls of this crate do: to a state, and where they write. Parts of a tree stand as the code has them.
use Rattle.std.specs.Prelude.{◌≡◌, [], List, map, Bool, Option, Result, IfOk}
use Rattle.std.specs.Option.{option_map, unwrap_or}
use Rattle.std.specs.Borrow.{Bor}
use Rattle.std.specs.declared.alloc.AllocError.{AllocError}
use Rattle.fluent_text.specs.Changes.{Change, old, new}
use Rattle.fluent_ast.specs.Tree.{Text}
use Rattle.fluent_ast.specs.View.{inline_view, pattern_view}
use Rattle.fluent_ast.specs.declared.ast.InlineExpression.{InlineExpression}
use Rattle.fluent_ast.specs.declared.ast.Pattern.{Pattern}
use Rattle.fluent_ast.specs.declared.ast.Variant.{Variant}
use Rattle.fluent_semantics.specs.Arguments.{get}
use Rattle.fluent_semantics.specs.Bundle.{Bundle, Function, function_found, goes_to}
use Rattle.fluent_semantics.specs.Errors.{Error}
use Rattle.fluent_semantics.specs.Events.{Event}
use Rattle.fluent_semantics.specs.Meaning.{Budget, left, limit_reached}
use Rattle.fluent_semantics.specs.Value.{Value, error_value, text_value}
use Rattle.fluent_semantics.specs.Walk.{variables}
use Rattle.fluent_bundle_entries.specs.EntryView.{ids as ids_of}
use Rattle.fluent_bundle_entries.specs.declared.ids.Ids.{Ids}
use Rattle.fluent_resolver_state.specs.ChosenView.{chosen, chosen_view}
use Rattle.fluent_resolver_state.specs.Happened.{Did, answer_events, lost_events, variable_errors, variable_events}
use Rattle.fluent_resolver_state.specs.Status.{Status, arguments_view, state, with_ids}
use Rattle.fluent_resolver_state.specs.Steps.{IsAtStart, ReportsIfOk}
use Rattle.fluent_resolver_state.specs.Steps as steps
use Rattle.fluent_resolver_state.specs.declared.state.State.{State}
use Rattle.fluent_resolver_state.specs.declared.variants.Chosen.{Chosen}
use Rattle.fluent_values.specs.View.{named, value_view}
use Rattle.fluent_values.specs.Sinks.{SinkTook, sink}
use Rattle.fluent_values.specs.declared.args.FluentArgs.{FluentArgs}
use Rattle.fluent_values.specs.declared.output.Halt.{Halt}
use Rattle.fluent_values.specs.declared.output.Output.{Output}
use Rattle.fluent_values.specs.declared.types.value.FluentValue.{FluentValue}

-- ---- the events of parts, from a state

-- an expression that can't be found
abbrev pub events_of_lost : {B : Type 0} → InlineExpression → Status B → List Event
events_of_lost x s = lost_events (inline_view x)

-- the value of a name, if it has one
abbrev pub named_value : {B : Type 0} → Text → Status B → Option (Value Text)
named_value id s = get id (variables s.environment)

-- a variable of this name
abbrev pub events_of_variable : {B : Type 0} → InlineExpression → Text → Status B → List Event
events_of_variable x id s = variable_events s.bundle s.environment (inline_view x) (named_value id s)

abbrev pub errors_of : {B : Type 0} → InlineExpression → Text → Status B → List Error
errors_of x id s = variable_errors s.environment (inline_view x) (named_value id s)

abbrev pub value_at : {B : Type 0} → Text → Status B → Value Text
value_at id s = unwrap_or (named_value id s) error_value

-- what a function of this id answers to these arguments
abbrev pub events_of_answer : {B C : Type 0} → (C → Text) → InlineExpression → Text → List (FluentValue C) → FluentArgs C → Status B → List Event
events_of_answer content x id vs args s =
    answer_events s.bundle (inline_view x) (option_map (λ f. f (map (value_view content) vs) (named content args)) (function_found (get id s.bundle.ids)))

-- what a text gives: what the transform makes of it, or nothing past the limit
abbrev pub text_left : Budget → Text → Text
text_left (left n) x = x
text_left limit_reached x = []

abbrev pub text_given : {B : Type 0} → Text → Status B → Text
text_given x s = text_left s.budget (s.bundle.transform x)

-- ---- what calls do: a `&mut` parameter stands by its name alone, as what it was before and is after

-- of this text a beginning was taken, and all of it where the answer is `Ok`
abbrev pub Puts : {W : Type 0} → (W → Option Text) → Text → Result (Unit {0}) Halt → Change (Output W) → Type 0
Puts contents t result out = SinkTook result t (sink contents (old out)) (sink contents (new out))

-- what a function of this id answers to these arguments, if there is one
abbrev pub Answers : {C F : Type 0} → (F → Function Text) → (C → Text) → Ids F → Text → List (FluentValue C) → FluentArgs C → Result (Option (FluentValue C)) AllocError → Type 0
Answers answer content ids id vs args result =
    IfOk result (λ found. option_map (value_view content) found ≡ option_map (λ f. f (map (value_view content) vs) (named content args)) (function_found (get id (ids_of answer ids))))

-- by what a bundle means and whether it is plain, what a function answers, and what an application's values show
module _ {C F B : Type 0} (meant : B → Bundle Text) (is_plain : B → Bool) (answer : F → Function Text) (content : C → Text) where
  -- what a state is to the meaning
  abbrev pub status : State C F B → Status B
  status s = state meant is_plain answer content s

  -- of these events a prefix happened, and all where the answer is `Ok`
  abbrev pub Writes : {W : Type 0} → (W → Option Text) → (Status B → List Event) → Result (Unit {0}) Halt → Change (Output W) → Change (State C F B) → Type 0
  Writes contents events result out s = Did result (events (status (old s))) (sink contents (old out)) (sink contents (new out)) (status (old s)) (status (new s))

  -- these errors were added, or none where the answer is no `Ok`
  abbrev pub Reports : {T : Type 0} → List Error → Result T AllocError → Change (State C F B) → Type 0
  Reports errors result s = ReportsIfOk result errors (status (old s)) (status (new s))

  -- a beginning of these errors was added, and all where the answer is `Ok`
  abbrev pub ReportsSome : {T : Type 0} → List Error → Result T AllocError → Change (State C F B) → Type 0
  ReportsSome errors result s = steps.ReportsSome result errors (status (old s)) (status (new s))

  -- the value of a variable of this name, with its error where it has none
  abbrev pub GivesVariable : InlineExpression → Text → Result (FluentValue C) AllocError → Change (State C F B) → Type 0
  GivesVariable x id result s =
      ReportsIfOk result (errors_of x id (status (old s))) (status (old s)) (status (new s))
      × IfOk result (λ v. value_view content v ≡ value_at id (status (old s)))

  -- the variant that it goes to
  abbrev pub Chooses : InlineExpression → Text → List Variant → Result (Option Chosen) AllocError → Change (State C F B) → Type 0
  Chooses x id vs result s =
      ReportsIfOk result (errors_of x id (status (old s))) (status (old s)) (status (new s))
      × IfOk result (λ o. chosen_view o ≡ chosen (goes_to (status (old s)).bundle (value_at id (status (old s)))) vs)

  -- a call begins in this state, of this bundle and these ids, with these arguments, if there are any
  abbrev pub BeginsCall : B → Ids F → Option (Bor (FluentArgs C)) → State C F B → Type 0
  BeginsCall b ids args s = IsAtStart (status s) (with_ids (meant b) (ids_of answer ids)) (arguments_view content args)

  -- one was taken from the budget, or the limit was reached
  abbrev pub TakesOne : Bool → Change (State C F B) → Type 0
  TakesOne opens s = steps.TakesOne opens (status (old s)) (status (new s))

  -- a pattern begins, which the path holds where it held none
  abbrev pub Starts : Bool → Pattern → Change (State C F B) → Type 0
  Starts begun p s = steps.StartsPattern begun (pattern_view p) (status (old s)) (status (new s))

  -- a pattern that a reference leads to is entered
  abbrev pub Enters : Pattern → Result (Unit {0}) AllocError → Change (State C F B) → Type 0
  Enters p result s = steps.Enters result (pattern_view p) (status (old s)) (status (new s))

  -- it is entered, and left at once
  abbrev pub Visits : Change (State C F B) → Type 0
  Visits s = steps.Visits (status (old s)) (status (new s))

  -- it is entered, and left at once, and its one text is a value
  abbrev pub GivesText : Text → Result (FluentValue C) AllocError → Change (State C F B) → Type 0
  GivesText x result s = Visits s × IfOk result (λ v. value_view content v ≡ text_value (text_given x (status (old s))))

  -- it is left
  abbrev pub Leaves : Bool → Change (State C F B) → Type 0
  Leaves put s = steps.Leaves put (status (old s)) (status (new s))

  -- none is being written any more, and variables are looked up among these arguments
  abbrev pub Rests : Option (Bor (FluentArgs C)) → Change (State C F B) → Type 0
  Rests args s = steps.Rests (arguments_view content args) (status (old s)) (status (new s))
