-- Calls whose arguments are literals and variables: errors are told, and the values are at hand.
use Rattle.std.proofs.Common.{◌≡◌, refl, sym, ap, subst, ◌∙◌, ℕ, List, [], ◌∷◌, ◌++◌, map, append-nil, append_assoc, true, false, ◌&&◌, Option, None, Some, Result, Ok, Err}
use Rattle.std.specs.Option.{option_map, unwrap_or}
use Rattle.fluent_ast.specs.Fallback.{fallback, in_braces}
use Rattle.fluent_ast.specs.Tree.{Text, Pattern, Inline, string, number, function, message, term, variable, nested, Arguments, arguments, Inlines, inlines_of, Nameds, nameds_of}
use Rattle.fluent_ast.specs.View.{arguments_view, inline_view, named_view}
use Rattle.fluent_ast.specs.declared.ast.CallArguments as of_call
use Rattle.fluent_ast.specs.declared.ast.CallArguments.{CallArguments}
use Rattle.fluent_ast.specs.declared.ast.InlineExpression.{InlineExpression}
use Rattle.fluent_ast.specs.declared.ast.NamedArgument.{NamedArgument}
use Rattle.fluent_semantics.specs.Ahead.{Rest, Next, after, ahead, begins, comes}
use Rattle.fluent_semantics.specs.Arguments.{Map, get, set_all}
use Rattle.fluent_semantics.specs.Bundle.{Bundle, Function, function_found}
use Rattle.fluent_semantics.specs.Errors.{Error, Reference, reference_of}
use Rattle.fluent_semantics.specs.Events.{tells, writes}
use Rattle.fluent_semantics.specs.Meaning.{Budget}
use Rattle.fluent_semantics.specs.Value.{Value, error_value, text_value, try_number}
use Rattle.fluent_semantics.specs.Walk as walk
use Rattle.fluent_semantics.specs.Walk.{Environment, application, local, elements, variables}
use Rattle.fluent_text.specs.Escapes.{unescaped}
use Rattle.fluent_resolver_state.specs.Facts.Reporting.{happened_some, tells_on}
use Rattle.fluent_resolver_state.specs.Facts.Views.{view_arguments, view_named}
use Rattle.fluent_resolver_state.specs.Happened.{answer_events, lost_error, variable_errors}
use Rattle.fluent_resolver_state.specs.Leaves.{is_leaf, leaf_value, leaf_errors, are_leaves, are_named_leaves, leaf_values, named_leaf_values, errors_of_leaves, errors_of_named_leaves, errors_of_call, has_leaves_alone}
use Rattle.fluent_resolver_state.specs.Status.{Status}
use Rattle.fluent_resolver_state.specs.Steps.{ReportsSome}
use Rattle.fluent_values.specs.Facts.Took.{at_ok}
use Rattle.fluent_values.specs.Sinks.{Sink}
use Rattle.fluent_resolver.specs.Frames.{Along}
use Rattle.fluent_resolver.specs.Inside.Parts as parts
use Rattle.fluent_resolver.specs.Inside.Parts.{Following, Use, View, tells_and_puts, text_then}
use Rattle.fluent_resolver.proofs.Answered.{answer_errors, answer_is, answer_text, answered_is}
use Rattle.fluent_resolver.proofs.Going.{passes, starts, turns}
use Rattle.fluent_resolver.proofs.Terms.{both, named_more, named_none}

-- errors one after another
told_more : (es fs : List Error) (r : Rest Text) → after (tells es) (after (tells fs) r) ≡ after (tells (es ++ fs)) r
told_more es fs r = ap (λ x. record { events = x; parts = r.parts; values = r.values }) (sym (append_assoc (tells es) (tells fs) r.events) ∙ ap (λ y. y ++ r.events) (sym (tells_on es fs)))

module _ {B : Type 0} {before : Rest Text} {n n' : ℕ} {w w' : Sink} {q a : Status B} where
  no_more : (es : List Error) (r : Rest Text) → Along before n (after (tells es) r) n' w w' q a → Along before n (after (tells (es ++ [])) r) n' w w' q a
  no_more es r way = turns (ap (λ l. after (tells l) r) (sym (append-nil es))) way

  starts_after : (es : List Error) (r : Rest Text) → Along before n (after (tells es) (begins r)) n' w w' q a → Along before n (after (tells es) r) n' w w' q a
  starts_after es r way = starts {now = after (tells es) r} way

  -- ---- one of them

  lost_first : (env : Environment Text) (b : Bundle Text) (r : Option Reference) (t : Text) (y : Value Text) (next : Next Text (Value Text)) (d : Budget) (es : List Error)
      → Along before n (after (tells es) (begins (walk.loses_as (ahead Text) b (comes b) env r t false (λ u c. next y c) d))) n' w w' q a
      → Along before n (after (tells (es ++ lost_error r)) (next y d)) n' w w' q a
  lost_first env b None t y next d es way = no_more es (next y d) (starts_after es (next y d) way)
  lost_first env b (Some r) t y next d es way = turns (told_more es (lost_error (Some r)) (next y d)) (starts_after es (after (tells (lost_error (Some r))) (next y d)) way)

  variable_first : (env : Environment Text) (b : Bundle Text) (x : Inline) (o : Option (Value Text)) (next : Next Text (Value Text)) (d : Budget) (es : List Error)
      → Along before n (after (tells es) (walk.variable_value (ahead Text) b (comes b) env x o false next d)) n' w w' q a
      → Along before n (after (tells (es ++ variable_errors env x o)) (next (unwrap_or o error_value) d)) n' w w' q a
  variable_first env b x (Some y) next d es way = no_more es (next y d) way
  variable_first (application m) b x None next d es way = lost_first (application m) b (reference_of x) (in_braces (fallback x)) error_value next d es way
  variable_first (local m) b x None next d es way = no_more es (next error_value d) (starts_after es (next error_value d) way)

  leaf_first : (env : Environment Text) (b : Bundle Text) (path : List Pattern) (x : Inline) (next : Next Text (Value Text)) (d : Budget) (es : List Error) → is_leaf x ≡ true
      → Along before n (after (tells es) (walk.resolved (ahead Text) b (comes b) env path x false next d)) n' w w' q a
      → Along before n (after (tells (es ++ leaf_errors env x)) (next (leaf_value env x) d)) n' w w' q a
  unfolding elements
  leaf_first env b path (string t) next d es h way = no_more es (next (text_value (unescaped t)) d) way
  leaf_first env b path (number t) next d es h way = no_more es (next (try_number t) d) way
  leaf_first env b path (function f c) next d es h way = cc
  leaf_first env b path (message m c) next d es h way = cc
  leaf_first env b path (term t c e) next d es h way = cc
  leaf_first env b path (variable x) next d es h way = variable_first env b (variable x) (get x (variables env)) next d es way
  leaf_first env b path (nested e) next d es h way = cc

positional_none : (b : Bundle Text) (env : Environment Text) (path : List Pattern) (next : Next Text (List (Value Text))) (d : Budget) → walk.positional (ahead Text) b (comes b) env path (inlines_of []) false next d ≡ next [] d
unfolding elements
positional_none b env path next d = refl

positional_more : (b : Bundle Text) (env : Environment Text) (path : List Pattern) (x : Inline) (xs : List Inline) (next : Next Text (List (Value Text))) (d : Budget)
    → walk.positional (ahead Text) b (comes b) env path (inlines_of (x ∷ xs)) false next d
    ≡ begins (walk.resolved (ahead Text) b (comes b) env path x false (λ y c. begins (walk.positional (ahead Text) b (comes b) env path (inlines_of xs) false (λ ys e. next (y ∷ ys) e) c)) d)
unfolding elements
positional_more b env path x xs next d = refl

-- ---- all of them

positional_first : {B : Type 0} {before : Rest Text} {n n' : ℕ} {w w' : Sink} {q a : Status B} (env : Environment Text) (b : Bundle Text) (path : List Pattern) (xs : List InlineExpression) (next : Next Text (List (Value Text))) (d : Budget) (es : List Error) → are_leaves xs ≡ true
    → Along before n (after (tells es) (walk.positional (ahead Text) b (comes b) env path (inlines_of (map inline_view xs)) false next d)) n' w w' q a
    → Along before n (after (tells (es ++ errors_of_leaves env xs)) (next (leaf_values env xs) d)) n' w w' q a
positional_first env b path [] next d es h way = no_more es (next [] d) (turns (ap (after (tells es)) (positional_none b env path next d)) way)
positional_first env b path (x ∷ xs) next d es h way =
    let y = inline_view x in
    let each = both (is_leaf y) (are_leaves xs) h in
    let then : Next Text (Value Text) = λ z c. begins (walk.positional (ahead Text) b (comes b) env path (inlines_of (map inline_view xs)) false (λ zs e. next (z ∷ zs) e) c) in
    let here = starts_after es (walk.resolved (ahead Text) b (comes b) env path y false then d) (turns (ap (after (tells es)) (positional_more b env path y (map inline_view xs) next d)) way) in
    let one = leaf_first env b path y then d es each.0 here in
    turns (ap (λ l. after (tells l) (next (leaf_values env (x ∷ xs)) d)) (append_assoc es (leaf_errors env y) (errors_of_leaves env xs)))
    (positional_first env b path xs (λ zs e. next (leaf_value env y ∷ zs) e) d (es ++ leaf_errors env y) each.1
    (starts_after (es ++ leaf_errors env y) (walk.positional (ahead Text) b (comes b) env path (inlines_of (map inline_view xs)) false (λ zs e. next (leaf_value env y ∷ zs) e) d) one))

named_first : {B : Type 0} {before : Rest Text} {n n' : ℕ} {w w' : Sink} {q a : Status B} (env : Environment Text) (b : Bundle Text) (path : List Pattern) (xs : List NamedArgument) (next : Next Text (List (Text × Value Text))) (d : Budget) (es : List Error) → are_named_leaves xs ≡ true
    → Along before n (after (tells es) (walk.named (ahead Text) b (comes b) env path (nameds_of (map named_view xs)) false next d)) n' w w' q a
    → Along before n (after (tells (es ++ errors_of_named_leaves env xs)) (next (named_leaf_values env xs) d)) n' w w' q a
named_first env b path [] next d es h way = no_more es (next [] d) (turns (ap (after (tells es)) (named_none b env path next d)) way)
named_first env b path (x ∷ xs) next d es h way =
    let y = inline_view x.value in
    let name = x.name.name.now in
    let each = both (is_leaf y) (are_named_leaves xs) h in
    let then : Next Text (Value Text) = λ z c. begins (walk.named (ahead Text) b (comes b) env path (nameds_of (map named_view xs)) false (λ zs e. next ((name, z) ∷ zs) e) c) in
    let here = starts_after es (walk.resolved (ahead Text) b (comes b) env path y false then d)
    (turns (ap (λ m. after (tells es) (walk.named (ahead Text) b (comes b) env path (nameds_of (m ∷ map named_view xs)) false next d)) (view_named x)
    ∙ ap (after (tells es)) (named_more b env path (name, y) (map named_view xs) next d)) way) in
    let one = leaf_first env b path y then d es each.0 here in
    turns (ap (λ l. after (tells l) (next (named_leaf_values env (x ∷ xs)) d)) (append_assoc es (leaf_errors env y) (errors_of_named_leaves env xs)))
    (named_first env b path xs (λ zs e. next ((name, leaf_value env y) ∷ zs) e) d (es ++ leaf_errors env y) each.1
    (starts_after (es ++ leaf_errors env y) (walk.named (ahead Text) b (comes b) env path (nameds_of (map named_view xs)) false (λ zs e. next ((name, leaf_value env y) ∷ zs) e) d) one))

-- ---- a call

call_is : (made_of : Use) (ps : Inlines) (ns : Nameds) (b : Bundle Text) (k : Following) (v : View) → parts.calls made_of (arguments ps ns) b k v
    ≡ begins (begins (walk.positional (ahead Text) b (comes b) v.environment v.path ps false (λ vs c. begins (walk.named (ahead Text) b (comes b) v.environment v.path ns false (λ es d. made_of vs (set_all es []) b k (record v { budget = d })) c)) v.budget))
unfolding elements
call_is made_of ps ns b k v = refl

pub leaves_called : {B : Type 0} {before : Rest Text} {n n' : ℕ} {w w' : Sink} {q a : Status B} (made_of : Use) (c : CallArguments) (b : Bundle Text) (k : Following) (v : View) → has_leaves_alone c ≡ true
    → Along before n (parts.calls made_of (arguments_view c) b k v) n' w w' q a
    → Along before n (after (tells (errors_of_call c v.environment)) (made_of (leaf_values v.environment (of_call.out-CallArguments c).positional.items) (set_all (named_leaf_values v.environment (of_call.out-CallArguments c).named.items) []) b k v)) n' w w' q a
leaves_called made_of c b k v h way =
    let env = v.environment in
    let ps = (of_call.out-CallArguments c).positional.items in
    let ns = (of_call.out-CallArguments c).named.items in
    let each = both (are_leaves ps) (are_named_leaves ns) h in
    let last : List (Value Text) → Next Text (List (Text × Value Text)) = λ vs es d. made_of vs (set_all es []) b k (record v { budget = d }) in
    let more : Next Text (List (Value Text)) = λ vs d. begins (walk.named (ahead Text) b (comes b) env v.path (nameds_of (map named_view ns)) false (last vs) d) in
    let all = starts (starts (turns (
    ap (λ x. parts.calls made_of x b k v) (view_arguments c)
    ∙ call_is made_of (inlines_of (map inline_view ps)) (nameds_of (map named_view ns)) b k v
    ) way)) in
    let first = positional_first env b v.path ps more v.budget [] each.0 all in
    named_first env b v.path ns (last (leaf_values env ps)) v.budget (errors_of_leaves env ps) each.1
    (starts_after (errors_of_leaves env ps) (walk.named (ahead Text) b (comes b) env v.path (nameds_of (map named_view ns)) false (last (leaf_values env ps)) v.budget) first)

-- ---- its answer, written

pub leaf_answer_is : (es : List Error) (x : Inline) (b : Bundle Text) (o : Option (Value Text)) → tells es ++ answer_events b x o ≡ tells (es ++ answer_errors x o) ++ writes (answer_text b x o)
leaf_answer_is es x b o =
    ap (λ y. tells es ++ y) (answer_is b x o)
    ∙ sym (append_assoc (tells es) (tells (answer_errors x o)) (writes (answer_text b x o)))
    ∙ ap (λ y. y ++ writes (answer_text b x o)) (sym (tells_on es (answer_errors x o)))

pub answered_after : (es : List Error) (x : Inline) (f : Option (Function Text)) (vs : List (Value Text)) (m : Map (Value Text)) (b : Bundle Text) (k : Following) (v : View)
    → after (tells es) (parts.answered x f vs m b k v) ≡ tells_and_puts (es ++ answer_errors x (option_map (λ f. f vs m) f)) (answer_text b x (option_map (λ f. f vs m) f)) b k v
answered_after es x f vs m b k v =
    let o = option_map (λ f. f vs m) f in
    ap (after (tells es)) (answered_is x f vs m b k v)
    ∙ told_more es (answer_errors x o) (text_then k v (answer_text b x o) v.budget)

-- ---- its answer, as a value

pub value_answered : (b : Bundle Text) (f : Option (Function Text)) (vs : List (Value Text)) (m : Map (Value Text)) → walk.function_value (ahead Text) b (comes b) (application []) f vs m ≡ unwrap_or (option_map (λ f. f vs m) f) error_value
value_answered b None vs m = refl
value_answered b (Some f) vs m = refl

-- some of its errors were told, or all
pub tells_some : {T E B : Type 0} {r : Result T E} {es : List Error} {before : Rest Text} {n n' : ℕ} {w w' : Sink} {s a b : Status B} (now : Rest Text) (h : ReportsSome r es a b) → Along before n (after (tells es) now) n' w w' s a → Along before n (after (tells h.rest) now) n' w w' s b
tells_some {w' = w'} now h way = passes (happened_some w' h) (turns (ap (λ l. after (tells l) now) (sym h.whole) ∙ sym (told_more h.done h.rest now)) way)

pub tells_all : {T E B : Type 0} {r : Result T E} {x : T} {es : List Error} {before now : Rest Text} {n n' : ℕ} {w w' : Sink} {s a b : Status B} → r ≡ Ok x → (h : ReportsSome r es a b) → Along before n (after (tells es) now) n' w w' s a → Along before n now n' w w' s b
tells_all {now = now} is h way = turns (ap (λ l. after (tells l) now) (at_ok is h.finished)) (tells_some now h way)
