-- Errors that are told while nothing is written.
use Rattle.std.proofs.Common.{◌≡◌, refl, sym, ap, ◌∙◌, ℕ, List, [], append-nil, Option, Some, None, Result, Ok, Err}
use Rattle.fluent_ast.specs.Tree.{Text, Pattern}
use Rattle.fluent_semantics.specs.Ahead.{Rest, after}
use Rattle.fluent_semantics.specs.Bundle.{Bundle}
use Rattle.fluent_semantics.specs.Errors.{Error}
use Rattle.fluent_semantics.specs.Events.{tells}
use Rattle.fluent_semantics.specs.Meaning.{Budget}
use Rattle.fluent_semantics.specs.Walk.{Environment}
use Rattle.fluent_resolver_state.specs.Facts.Happening.{happened_told, happened_untold}
use Rattle.fluent_resolver_state.specs.Status.{Status}
use Rattle.fluent_resolver_state.specs.Steps.{ReportsIfOk}
use Rattle.fluent_values.specs.Sinks.{Sink}
use Rattle.fluent_resolver.specs.Frames.{Along}
use Rattle.fluent_resolver.specs.Inside.Parts.{View, Following, goes_on, text_then}
use Rattle.fluent_resolver.proofs.Going.{passes, turns}

goes_on_same : (kept : Option Text) (k : Option Text → Budget → Rest Text) (b : Budget) → goes_on kept k [] b ≡ k kept b
goes_on_same None k b = refl
goes_on_same (Some own) k b = ap (λ t. k (Some t) b) (append-nil own)

-- no text is what follows it
pub puts_nothing : (k : Following) (v : View) → text_then k v [] v.budget ≡ k None v
puts_nothing k v = goes_on_same v.kept (λ kept b. k None (record v { kept = kept; budget = b })) v.budget

-- what is ahead in a state, by what a report leaves as it was
reported_same : {T E B : Type 0} {r : Result T E} {es : List Error} {a b : Status B} (ahead : Bundle Text → Environment Text → List Pattern → Budget → Rest Text) → ReportsIfOk r es a b → ahead a.bundle a.environment a.path a.budget ≡ ahead b.bundle b.environment b.path b.budget
reported_same {a = a} {b} ahead h =
    ap (λ x. ahead x a.environment a.path a.budget) (sym h.stays.bundle)
    ∙ ap (λ x. ahead b.bundle x a.path a.budget) (sym h.environment)
    ∙ ap (λ x. ahead b.bundle b.environment x a.budget) (sym h.path)
    ∙ ap (λ x. ahead b.bundle b.environment b.path x) (sym h.budget)

-- errors were told
pub tells_first : {T E B : Type 0} {r : Result T E} {x : T} {es : List Error} {before : Rest Text} {n n' : ℕ} {w w1 : Sink} {s a b : Status B} (ahead : Bundle Text → Environment Text → List Pattern → Budget → Rest Text) → r ≡ Ok x → ReportsIfOk r es a b → Along before n (after (tells es) (ahead a.bundle a.environment a.path a.budget)) n' w w1 s a → Along before n (ahead b.bundle b.environment b.path b.budget) n' w w1 s b
tells_first {w1 = w1} ahead is h way = turns (reported_same ahead h) (passes (happened_told w1 is h) way)

-- or none were, for want of memory
pub tells_none : {T E B : Type 0} {r : Result T E} {e : E} {es : List Error} {before now : Rest Text} {n n' : ℕ} {w w1 : Sink} {s a b : Status B} → r ≡ Err e → ReportsIfOk r es a b → Along before n now n' w w1 s a → Along before n now n' w w1 s b
tells_none {w1 = w1} is h way = passes (happened_untold w1 is h) way
