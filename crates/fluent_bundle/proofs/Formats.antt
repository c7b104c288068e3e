-- What a whole pattern wrote and reported.
use Rattle.std.proofs.Common.{◌≡◌, ℕ, Bool, true, false, String, string_bytes, Global, refl, sym, ap, subst, ◌∙◌, List, [], ◌∷◌, ◌++◌, append-nil, Option, Some, None, Result, Ok, Err, OnOk}
use Rattle.std.proofs.lemmas.Result.{on_ok_weaker}
use Rattle.std.specs.Option.{option_map}
use Rattle.std.specs.Io.KnownBytes.{Appends}
use Rattle.std.specs.Prelude.{◌≤◌}
use Rattle.fluent_ast.specs.Tree.{Text, Pattern}
use Rattle.fluent_text.specs.declared.counting.Counting.{Counting}
use Rattle.fluent_text.specs.declared.counting.WriteFault.{WriteFault}
use Rattle.fluent_values.specs.declared.output.Halt.{Halt}
use Rattle.fluent_values.specs.Sinks.{Sink, SinkTook, at, without_error, writer}
use Rattle.fluent_semantics.specs.Ahead.{ahead, comes, events_of}
use Rattle.fluent_semantics.specs.Arguments.{Map}
use Rattle.fluent_semantics.specs.Bundle.{Bundle}
use Rattle.fluent_semantics.specs.Errors.{Error}
use Rattle.fluent_semantics.specs.Events.{Event, entered, errors_in, text_in, writes}
use Rattle.fluent_semantics.specs.Result.{written_pattern, substituted_pattern}
use Rattle.fluent_semantics.specs.Value.{Value}
use Rattle.fluent_semantics.specs.Walk.{application, whole}
use Rattle.fluent_bundle_entries.specs.declared.errors.FluentError.{FluentError}
use Rattle.fluent_resolver.specs.Frames.{Tried}
use Rattle.fluent_resolver.specs.Scoped.{pattern_events}
use Rattle.fluent_resolver_state.specs.Status.{Status, reported, with_errors}
use Rattle.fluent_resolver_state.specs.Steps.{IsAtStart}
use Rattle.fluent_bundle.specs.Facts.Events.{errors_of, text_of, writes_on}
use Rattle.fluent_bundle.specs.Formatted.{AddsAll, AddsPrefix, EventsAreRun, KeepsLimit, Writes, WritesAll, written_events}

-- what a pattern does in the state in which a call begins
pub fresh : {K : Type 0} (s : Status K) (b : Bundle Text) (args : Map (Value Text)) (p : Pattern) → IsAtStart s b args → pattern_events p s ≡ written_events b args p
fresh s b args p at =
    ap (λ c. events_of (whole (ahead Text) c (comes c) s.environment s.path p) s.budget) at.bundle
    ∙ ap (λ env. events_of (whole (ahead Text) b (comes b) env s.path p) s.budget) at.environment
    ∙ ap (λ path. events_of (whole (ahead Text) b (comes b) (application args) path p) s.budget) at.path
    ∙ ap (λ budget. events_of (whole (ahead Text) b (comes b) (application args) [] p) budget) at.budget

-- what stands in a list after these were added
listed : {K : Type 0} (list list' : List FluentError) (added : List Error) (s s' : Status K) → s'.errors ≡ with_errors s.errors added → s.errors ≡ Some (reported list) → s'.errors ≡ Some (reported list') → reported list' ≡ reported list ++ added
listed list list' added s s' h before after' = cc (sym after' ∙ h ∙ ap (λ l. with_errors l added) before)

-- what the resolver did
pub writes_of : {T K : Type 0} {r : Result T Halt} {events all : List Event} {w w' : Sink} {a b : Status K} {list list' : List FluentError}
    → Tried r (record { events = events; parts = 0; values = None }) (λ x. None) w w' a b → events ≡ all → a.errors ≡ Some (reported list) → b.errors ≡ Some (reported list') → Writes r all w w' list list'
writes_of {r = r} {events = events} {a = a} {b = b} {list = list} {list' = list'} h is before after' = by r h.whole (λ rest whole none. record {
  prefix = record {
    done = h.done;
    rest = rest;
    whole = whole ∙ is;
    taken = h.happened.text;
    adds = record { added = listed list list' (errors_in h.done) a b h.happened.errors before after' };
  };
  finished = none;
  fault = h.fault;
  beside = h.happened.beside;
  borrowed = h.happened.borrowed;
})
  where
    by : {T P : Type 0} (q : Result T Halt) → OnOk q (h.done ≡ events) → ((rest : List Event) → h.done ++ rest ≡ events → OnOk q (rest ≡ []) → P) → P
    by (Ok x) all f = f [] (append-nil h.done ∙ all) refl
    by (Err e) all f = f h.prefix.rest h.prefix.whole tt

-- what a text that is the whole of it wrote
pub writes_text : {T : Type 0} {r : Result T Halt} {t : Text} {all : List Event} {w w' : Sink} (list : List FluentError) → all ≡ entered 1 ∷ writes t → SinkTook r t w w' → Writes r all w w' list list
writes_text {r = r} {w = w} {w' = w'} list is k = record {
  prefix = record {
    done = entered 1 ∷ writes k.taken;
    rest = writes k.left;
    whole = ap (λ es. entered 1 ∷ es) (sym (writes_on k.taken k.left) ∙ ap writes k.begins) ∙ sym is;
    taken = subst (Appends w.held w'.held) (sym (text_of k.taken)) k.held;
    adds = record { added = sym (ap (λ es. reported list ++ es) (errors_of k.taken) ∙ append-nil (reported list)) };
  };
  finished = on_ok_weaker r (ap writes) k.done;
  fault = k.fault;
  beside = k.beside;
  borrowed = k.borrowed;
}

-- what was written and added where the answer is Ok
pub writes_whole : {T : Type 0} {r : Result T Halt} {w w' : Sink} {list list' : List FluentError} (b : Bundle Text) (args : Map (Value Text)) (p : Pattern) → EventsAreRun b args p → Writes r (written_events b args p) w w' list list'
    → OnOk r (WritesAll (written_pattern b args p).value (written_pattern b args p).errors w.held w'.held list list')
writes_whole {r = r} {w = w} {w' = w'} {list = list} {list' = list'} b args p law h = on_ok_weaker r all_of h.finished
  where
    all_of : h.prefix.rest ≡ [] → WritesAll (written_pattern b args p).value (written_pattern b args p).errors w.held w'.held list list'
    all_of none_left =
        let come = law.prefix h.prefix.done [] (ap (λ es. h.prefix.done ++ es) (sym none_left) ∙ h.prefix.whole) in
        record {
          taken = subst (Appends w.held w'.held) (sym (append-nil (text_in h.prefix.done)) ∙ come.text) h.prefix.taken;
          adds = record { added = h.prefix.adds.added ∙ ap (λ es. reported list ++ es) (sym (append-nil (errors_in h.prefix.done)) ∙ come.errors) };
        }

-- the same by substitution, within the limit
pub substituted_of : {T E : Type 0} (r : Result T E) (held held' : Option Text) (list list' : List FluentError) (b : Bundle Text) (args : Map (Value Text)) (p : Pattern) → KeepsLimit b args p
    → OnOk r (WritesAll (written_pattern b args p).value (written_pattern b args p).errors held held' list list') → (substituted_pattern b args p).opened ≤ b.limit → OnOk r (WritesAll (substituted_pattern b args p).value (substituted_pattern b args p).errors held held' list list')
substituted_of r held held' list list' b args p keeps h few = subst (λ m. OnOk r (WritesAll m.value m.errors held held' list list')) (keeps.within few) h

-- ---- where a text goes

-- which of writer and buffer takes texts is part of what stands
which : {W : Type 0} (contents : W → Option Text) (n k : ℕ) (w : Counting W) (s : String Global) (b : Bool) → (at contents n w k s b).borrowed.1.1 ≡ b
which contents n k w s true = refl
which contents n k w s false = refl

still : {W : Type 0} (contents : W → Option Text) (n n' k k' : ℕ) (w w' : Counting W) (s s' : String Global) (b b' : Bool) → (at contents n' w' k' s' b').borrowed ≡ (at contents n w k s b).borrowed → b' ≡ b
still contents n n' k k' w w' s s' b b' same = sym (which contents n' k' w' s' b') ∙ ap (λ l. l.1.1) same ∙ which contents n k w s b

abbrev To : {W T : Type 0} → Result T Halt → List Event → List FluentError → List FluentError → (W → Option Text) → ℕ → ℕ → ℕ → ℕ → Counting W → Counting W → String Global → String Global → Bool → Type 0
To r all list list' contents n n' k k' w w' s s' b = Writes r all (at contents n w k s false) (at contents n' w' k' s' b) list list'

by_itself : {W T : Type 0} {r : Result T Halt} {all : List Event} {list list' : List FluentError} (contents : W → Option Text) (n n' k k' : ℕ) (w w' : Counting W) (s s' : String Global) → To r all list list' contents n n' k k' w w' s s' false → Writes r all (writer contents w) (writer contents w') list list'
by_itself contents n n' k k' w w' s s' h = record { prefix = h.prefix; finished = h.finished; fault = h.fault; beside = refl; borrowed = refl }

-- what an output without a buffer wrote, its writer took
pub written_by : {W T : Type 0} {r : Result T Halt} {all : List Event} {list list' : List FluentError} (contents : W → Option Text) (n n' k k' : ℕ) (w w' w'' : Counting W) (s s' : String Global) (b : Bool) → w'' ≡ w' → To r all list list' contents n n' k k' w w' s s' b → Writes r all (writer contents w) (writer contents w'') list list'
written_by {r = r} {all = all} {list = list} {list' = list'} contents n n' k k' w w' w'' s s' b same h =
    subst (λ v. Writes r all (writer contents w) (writer contents v) list list') (sym same)
    (by_itself contents n n' k k' w w' s s' (subst (To r all list list' contents n n' k k' w w' s s') (still contents n n' k k' w w' s s' false b h.borrowed) h))

-- the same of one that was made to write through
pub written_through : {W T : Type 0} {r : Result T Halt} {all : List Event} {list list' : List FluentError} (contents : W → Option Text) (n n' k k' : ℕ) (w w₀ w' w'' : Counting W) (s s' : String Global) (b₀ b : Bool) → w'' ≡ w' → w₀ ≡ w → b₀ ≡ false → Writes r all (at contents n w₀ k s b₀) (at contents n' w' k' s' b) list list' → Writes r all (writer contents w) (writer contents w'') list list'
written_through {r = r} {all = all} {list = list} {list' = list'} contents n n' k k' w w₀ w' w'' s s' b₀ b same was through h =
    written_by contents n n' k k' w w' w'' s s' b same
    (subst (λ v. Writes r all (at contents n v k s false) (at contents n' w' k' s' b) list list') was
    (subst (λ c. Writes r all (at contents n w₀ k s c) (at contents n' w' k' s' b) list list') through h))

-- what an output with a buffer wrote, its buffer took
abbrev Into : {W T : Type 0} → Result T Halt → List Event → List FluentError → List FluentError → (W → Option Text) → ℕ → ℕ → ℕ → ℕ → Counting W → Counting W → String Global → String Global → Bool → Type 0
Into r all list list' contents n n' k k' w w' s s' b = Writes r all (at contents n w k s true) (at contents n' w' k' s' b) list list'

pub gathered : {W T : Type 0} {r : Result T Halt} {list list' : List FluentError} (b : Bundle Text) (args : Map (Value Text)) (p : Pattern) → EventsAreRun b args p → (contents : W → Option Text) (n n' k k' : ℕ) (w w' : Counting W) (s s' : String Global) (c : Bool) → Into r (written_events b args p) list list' contents n n' k k' w w' s s' c
    → OnOk r (string_bytes s' ≡ string_bytes s ++ (written_pattern b args p).value)
gathered {W} {T} {r = r} {list = list} {list' = list'} b args p law contents n n' k k' w w' s s' c h =
    let in_buffer = subst (Into r (written_events b args p) list list' contents n n' k k' w w' s s') (still contents n n' k k' w w' s s' true c h.borrowed) h in
    on_ok_weaker r (λ (all : WritesAll (written_pattern b args p).value (written_pattern b args p).errors (Some (string_bytes s)) (Some (string_bytes s')) list list'). all.taken) (writes_whole b args p law in_buffer)

-- the errors that were added, all where the answer is Ok
pub adds_all : {T : Type 0} {r : Result T Halt} {w w' : Sink} {list list' : List FluentError} (b : Bundle Text) (args : Map (Value Text)) (p : Pattern) → EventsAreRun b args p → Writes r (written_events b args p) w w' list list' → OnOk r (AddsAll (written_pattern b args p).errors list list')
adds_all {r = r} {w = w} {w' = w'} {list = list} {list' = list'} b args p law h =
    on_ok_weaker r (λ (all : WritesAll (written_pattern b args p).value (written_pattern b args p).errors w.held w'.held list list'). all.adds) (writes_whole b args p law h)

-- the errors that were added, whatever is answered
pub adds_some : {T : Type 0} {r : Result T Halt} {w w' : Sink} {list list' : List FluentError} (b : Bundle Text) (args : Map (Value Text)) (p : Pattern) → EventsAreRun b args p → Writes r (written_events b args p) w w' list list' → AddsPrefix (written_pattern b args p).errors list list'
adds_some b args p law h = record {
  prefix = errors_in h.prefix.done;
  rest = errors_in h.prefix.rest;
  whole = (law.prefix h.prefix.done h.prefix.rest h.prefix.whole).errors;
  adds = h.prefix.adds;
}

-- a list that was handed in is there at the end
pub never_none : {A B : Type 0} (f : A → B) (o : Option A) (y : B) → o ≡ None → option_map f o ≡ Some y → ⊥
never_none f None y h k = cc
never_none f (Some x) y h k = cc

-- an answer without the writer's own error is Ok where the answer is
pub ok_as : {T : Type 0} (P : Type 0) (r : Result T WriteFault) {q : Result T Halt} → without_error r ≡ q → OnOk q P → OnOk r P
ok_as P (Ok x) is h = subst (λ q. OnOk q P) (sym is) h
ok_as P (Err e) is h = tt
