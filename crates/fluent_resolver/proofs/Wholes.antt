-- A whole run, from where nothing waits: the events of its meaning, and what a scope is after it.
use Rattle.std.proofs.Common.{◌≡◌, refl, sym, ap, subst, ◌∙◌, ℕ, List, [], ◌∷◌, ◌++◌, append-nil, append_assoc, length, map, Bool, true, false, Option, Some, None, Result, Ok, Err, OnOk, IfOk, String, Global, string_bytes}
use Rattle.std.specs.Io.KnownBytes.{Appends}
use Rattle.std.specs.declared.vec.Vec.{Vec}
use Rattle.fluent_text.specs.Writer.{writer_in}
use Rattle.fluent_text.specs.declared.counting.Counting.{Counting}
use Rattle.fluent_text.specs.declared.counting.WriteFault.{WriteFault}
use Rattle.fluent_ast.specs.Fallback.{fallback_of}
use Rattle.fluent_ast.specs.Tree.{Text, Pattern, Expression, Inline, Arguments}
use Rattle.fluent_semantics.specs.Ahead.{ComesByItself, EventsAreTheRun, Rest, Values, after, ahead, begins, closed_ahead, comes, events_of, finished}
use Rattle.fluent_semantics.specs.Arguments.{Map}
use Rattle.fluent_semantics.specs.Bundle.{Bundle}
use Rattle.fluent_semantics.specs.Events.{Event, wrote, told, opened, reached_limit, entered, text_in, writes}
use Rattle.fluent_semantics.specs.Laws.{CallsByThemselves}
use Rattle.fluent_semantics.specs.Meaning.{Ran, ending}
use Rattle.fluent_semantics.specs.Value.{Value}
use Rattle.fluent_semantics.specs.Walk as walk
use Rattle.fluent_semantics.specs.Walk.{Environment, application, go, inner, is_on, whole}
use Rattle.fluent_resolver_state.specs.Facts.Happening.{happened_on, nothing_happened, stays_on}
use Rattle.fluent_resolver_state.specs.Happened.{Did, Happened}
use Rattle.fluent_resolver_state.specs.Status.{Status}
use Rattle.fluent_resolver_state.specs.Steps.{Rests, StartsPattern}
use Rattle.fluent_values.specs.Facts.Took.{appends_none, at_ok, never}
use Rattle.fluent_values.specs.Sinks.{CountsTell, Sink, at, keeping, outside, sink, without_error, writer}
use Rattle.fluent_values.specs.declared.output.Halt.{Halt}
use Rattle.fluent_values.specs.declared.output.Halt.TheVariants.{Memory}
use Rattle.fluent_values.specs.View.{named, value_view}
use Rattle.fluent_values.specs.declared.args.FluentArgs.{FluentArgs}
use Rattle.fluent_values.specs.declared.output.Output.{Output}
use Rattle.fluent_values.specs.declared.types.value.FluentValue.{FluentValue}
use Rattle.fluent_resolver.specs.Frames.{Along, RanToEnd, Tried, at_end, kept_before, values_view}
use Rattle.fluent_resolver.specs.Inside.Parts as parts
use Rattle.fluent_resolver.specs.Inside.Parts.{Following, Part, View}
use Rattle.fluent_resolver.specs.Scoped.{Gets, GivenRun, MaybeTrackedRuns, TrackedRuns, given_ahead, given_values, maybe_tracked_events, pattern_events, tracked_events}
use Rattle.fluent_resolver.specs.declared.work.Work.{Work}
use Rattle.fluent_resolver.specs.Inside.Waits.{values_in}
use Rattle.fluent_resolver.proofs.Beginning.{happened_entered}
use Rattle.fluent_resolver.proofs.Laying.{viewed}
use Rattle.fluent_resolver.proofs.Going.{begun, faults_on, passes, same_fault}

-- ---- what is ahead where nothing waits

-- what a run has at hand in a state, where it keeps no text
abbrev pub fresh : {B : Type 0} → Status B → View
fresh a = record { kept = None; budget = a.budget; environment = a.environment; path = a.path; values = None }

-- the same by an output that keeps none and by work without values
pub begun_with : {C B W : Type 0} (content : C → Text) (part : Part) (k : Following) (b : Status B) (out : Output W) (work : Work C) → out.is_kept ≡ false → values_in work ≡ None
    → part b.bundle k (fresh b) ≡ part b.bundle k (viewed out b (values_view content (values_in work)))
begun_with content part k b out work kept none =
    ap (λ x. part b.bundle k (record { kept = x; budget = b.budget; environment = b.environment; path = b.path; values = None })) (sym (ap (λ x. kept_before x out.kept.now) kept))
    ∙ ap (λ vs. part b.bundle k (viewed out b (values_view content vs))) (sym none)

-- a whole pattern
pub whole_events : {B : Type 0} (p : Pattern) (a : Status B) → (parts.whole p a.bundle at_end (fresh a)).events ≡ pattern_events p a
whole_events p a =
    ap (λ k. (whole (ahead Text) a.bundle (comes a.bundle) a.environment a.path p true k a.budget).events)
    (λ i t c. record { events = append-nil (writes t) i; parts = 0; values = None })

-- a placeable's expression, and its end without a mark
abbrev pub closed_part : Expression → Bundle Text → View → Rest Text
closed_part e b v = parts.expression e b (λ given u. parts.closing e false b at_end u) v

pub closed_events : {B : Type 0} (e : Expression) (a : Status B)
    → (closed_part e a.bundle (fresh a)).events ≡ events_of (closed_ahead (fallback_of e) (walk.expression (ahead Text) a.bundle (comes a.bundle) a.environment a.path e)) a.budget
closed_events e a =
    ap (λ k. (walk.expression (ahead Text) a.bundle (comes a.bundle) a.environment a.path e true k a.budget).events)
    (λ i t c. record { events = writes t ++ (writes (append-nil (ending (fallback_of e) c) i) ++ []); parts = 0; values = None })

-- a pattern that is referred to, where none is being written
pub tracked_whole : {B : Type 0} → ComesByItself Text → (p : Pattern) (x : Inline) (a : Status B) → a.path ≡ [] → tracked_events p x a ≡ pattern_events p a
tracked_whole law p x a none =
    ap (λ path. events_of (go (ahead Text) a.bundle (comes a.bundle) a.environment (is_on path p) a.environment path x p) a.budget) none
    ∙ ap (λ (r : Rest Text). r.events) (law a.bundle a.environment (p ∷ []) p true finished a.budget)
    ∙ ap (λ path. events_of (whole (ahead Text) a.bundle (comes a.bundle) a.environment path p) a.budget) (sym none)

-- a placeable's expression begins
pub begins_closed : {B : Type 0} {put : Bool} {p : Pattern} {a b : Status B} (e : Expression) (w : Sink) → StartsPattern put p a b
    → Along (after (entered (length b.path) ∷ []) (begins (closed_part e b.bundle (fresh b)))) 0 (begins (closed_part e b.bundle (fresh b))) 0 w w a b
begins_closed {a = a} {b} e w h = passes (happened_entered w h) (begun (after (entered (length b.path) ∷ []) (begins (closed_part e b.bundle (fresh b)))) 0 w a)

pub entered_closed : {B : Type 0} {put : Bool} {p : Pattern} {a b : Status B} (e : Expression) → StartsPattern put p a b
    → (after (entered (length b.path) ∷ []) (begins (closed_part e b.bundle (fresh b)))).events ≡ maybe_tracked_events p e a
entered_closed {p = p} {a} {b} e h =
    ap (λ es. entered (length b.path) ∷ es) (closed_events e b)
    ∙ ap (λ s. entered (length b.path) ∷ events_of (closed_ahead (fallback_of e) (walk.expression (ahead Text) s (comes s) b.environment b.path e)) b.budget) h.elsewhere.stays.bundle
    ∙ ap (λ env. entered (length b.path) ∷ events_of (closed_ahead (fallback_of e) (walk.expression (ahead Text) a.bundle (comes a.bundle) env b.path e)) b.budget) h.elsewhere.environment
    ∙ ap (λ n. entered (length b.path) ∷ events_of (closed_ahead (fallback_of e) (walk.expression (ahead Text) a.bundle (comes a.bundle) a.environment b.path e)) n) h.elsewhere.budget
    ∙ ap (λ path. entered (length path) ∷ events_of (closed_ahead (fallback_of e) (walk.expression (ahead Text) a.bundle (comes a.bundle) a.environment path e)) a.budget) h.path

-- ---- what a run did

on_ok : {T E P Q : Type 0} (r : Result T E) → (P → Q) → OnOk r P → OnOk r Q
on_ok (Ok x) f h = f h
on_ok (Err e) f h = tt

abbrev no_values : Values Text
no_values = None

if_none : {T E : Type 0} (r : Result T E) → IfOk r (λ x. no_values ≡ no_values)
if_none (Ok x) = refl
if_none (Err e) = tt

happened_rested : {B : Type 0} {done : List Event} {w w' : Sink} {s s1 s2 : Status B} {args : Map (Value Text)} → Rests args s1 s2 → Happened done w w' s s1 → Happened done w w' s s2
happened_rested k h = record { text = h.text; errors = k.errors ∙ h.errors; budget = k.budget ∙ h.budget; tally = k.tally ∙ h.tally; beside = h.beside; borrowed = h.borrowed; stays = stays_on h.stays k.stays }

-- one way, and then to the end
pub runs_on : {T B : Type 0} {r : Result T Halt} {before mid : Rest Text} {n n1 : ℕ} {values : Values Text} {w w1 w2 : Sink} {s s1 s2 : Status B} → Along before n mid n1 w w1 s s1 → RanToEnd r mid values w1 w2 s1 s2 → RanToEnd r before values w w2 s s2
runs_on {r = r} {before} {mid} {w2 = w2} h j = record {
  done = h.done ++ j.done;
  happened = happened_on h.happened j.happened;
  prefix = record { rest = j.prefix.rest; whole = append_assoc h.done j.done j.prefix.rest ∙ ap (λ y. h.done ++ y) j.prefix.whole ∙ h.events };
  whole = on_ok r (λ all. ap (λ y. h.done ++ y) all ∙ h.events) j.whole;
  ends = on_ok r (λ all. all ∙ h.values) j.ends;
  fault = faults_on r w2 h j.fault;
}

-- what was to happen, said otherwise
pub tried : {T B : Type 0} {r : Result T Halt} {before : Rest Text} {es : List Event} {values : Values Text} {w w' : Sink} {s s' : Status B} → before.events ≡ es → RanToEnd r before values w w' s s' → Tried r (record { events = es; parts = 0; values = None }) (λ x. None) w w' s s'
tried {r = r} {before} {es} is h = record {
  done = h.done;
  happened = h.happened;
  prefix = record { rest = h.prefix.rest; whole = h.prefix.whole ∙ is };
  whole = on_ok r (λ all. all ∙ is) h.whole;
  values = if_none r;
  fault = h.fault;
}

pub tried_events : {T B : Type 0} {r : Result T Halt} {es fs : List Event} {w w' : Sink} {s s' : Status B} → es ≡ fs → Tried r (record { events = es; parts = 0; values = None }) (λ x. None) w w' s s' → Tried r (record { events = fs; parts = 0; values = None }) (λ x. None) w w' s s'
tried_events {r = r} {w = w} {w'} {s} {s'} is h = subst (λ es. Tried r (record { events = es; parts = 0; values = None }) (λ x. None) w w' s s') is h

-- there was no memory
pub tried_none : {T B : Type 0} {r : Result T Halt} {before now : Rest Text} {n n' : ℕ} {es : List Event} {w w' : Sink} {s s' : Status B} → r ≡ Err Memory → before.events ≡ es → Along before n now n' w w' s s' → Tried r (record { events = es; parts = 0; values = None }) (λ x. None) w w' s s'
tried_none {r = r} {now = now} {es = es} {w} {w'} {s} {s'} is same h =
    subst (λ r. Tried r (record { events = es; parts = 0; values = None }) (λ x. None) w w' s s') (sym is)
    (record { done = h.done; happened = h.happened; prefix = record { rest = now.events; whole = h.events ∙ same }; whole = tt; values = tt; fault = h.still })

-- the same of a call that gives values
pub yields : {S T B : Type 0} {q : Result S Halt} {r : Result T Halt} {x : S} {y : T} {before rest : Rest Text} {values : Values Text} {w w' : Sink} {s s' : Status B} (see : T → Values Text) → q ≡ Ok x → r ≡ Ok y → before.events ≡ rest.events → before.values ≡ rest.values → see y ≡ values → RanToEnd q before values w w' s s' → Tried r rest see w w' s s'
yields {S} {T} {q = q} {r} {x} {y} {before} {rest} {values} {w} {w'} {s} {s'} see was is same are given h =
    subst (λ r. Tried r rest see w w' s s') (sym is) (record {
      done = h.done;
      happened = h.happened;
      prefix = record { rest = h.prefix.rest; whole = h.prefix.whole ∙ same };
      whole = at_ok was h.whole ∙ same;
      values = given ∙ at_ok was h.ends ∙ are;
      fault = subst (CountsTell {T = S} w.failed w.empty w'.failed w'.empty) was h.fault;
    })

pub yields_not : {T B : Type 0} {r : Result T Halt} {e : Halt} {before rest : Rest Text} {values : Values Text} {w w' : Sink} {s s' : Status B} (see : T → Values Text) → r ≡ Err e → before.events ≡ rest.events → RanToEnd r before values w w' s s' → Tried r rest see w w' s s'
yields_not {T} {r = r} {e} {before} {rest} {values} {w} {w'} {s} {s'} see is same h =
    subst (λ r. Tried r rest see w w' s s') (sym is) (record {
      done = h.done;
      happened = h.happened;
      prefix = record { rest = h.prefix.rest; whole = h.prefix.whole ∙ same };
      whole = tt;
      values = tt;
      fault = subst (CountsTell {T = T} w.failed w.empty w'.failed w'.empty) is h.fault;
    })

-- there can't be values and none
pub never_both : {A : Type 0} {o : Option A} {x : A} → o ≡ None → o ≡ Some x → ⊥
never_both h j = cc

-- and where another call before it was
pub yields_fails : {S T B : Type 0} {q : Result S Halt} {r : Result T Halt} {e : Halt} {before rest : Rest Text} {values : Values Text} {w w' : Sink} {s s' : Status B} (see : T → Values Text) → q ≡ Err e → r ≡ Err e → before.events ≡ rest.events → RanToEnd q before values w w' s s' → Tried r rest see w w' s s'
yields_fails {S} {T} {e = e} {before} {rest} {values} {w} {w'} {s} {s'} see was is same h =
    yields_not {before = before} {values = values} see is same (record {
      done = h.done;
      happened = h.happened;
      prefix = h.prefix;
      whole = never _ is;
      ends = never _ is;
      fault = subst (CountsTell {T = T} w.failed w.empty w'.failed w'.empty) (sym is) (same_fault S T e w.failed w.empty w'.failed w'.empty (subst (CountsTell {T = S} w.failed w.empty w'.failed w'.empty) was h.fault));
    })

-- a scope that is at rest again
pub rested : {T B : Type 0} {r : Result T Halt} {es : List Event} {w w' : Sink} {s s1 s2 : Status B} {args : Map (Value Text)} → s.environment ≡ application args → s.path ≡ [] → Rests args s1 s2 → Tried r (record { events = es; parts = 0; values = None }) (λ x. None) w w' s s1 → Did r es w w' s s2
rested {r = r} {es} {w} {w'} {s} {s1} {s2} home idle k h =
    let there : Happened h.done w w' s s2 = happened_rested k h.happened in
    let env : s2.environment ≡ s.environment = k.environment ∙ sym home in
    let path : s2.path ≡ s.path = k.path ∙ sym idle in
    by r h.whole (λ rest all none. record { done = h.done; rest = rest; whole = all; finished = none; happened = there; fault = h.fault; environment = env; path = path })
  where
    by : {T P : Type 0} (q : Result T Halt) → OnOk q (h.done ≡ es) → ((rest : List Event) → h.done ++ rest ≡ es → OnOk q (rest ≡ []) → P) → P
    by (Ok x) all f = f [] (append-nil h.done ∙ all) refl
    by (Err e) all f = f h.prefix.rest h.prefix.whole tt

-- ---- where a call that is handed a writer writes

by_flag : {W T B : Type 0} {r : Result T Halt} {es : List Event} {a a' : Status B} (contents : W → Option Text) (n n' k k' : ℕ) (w w' : Counting W) (s s' : String Global) (b' : Bool) → Did r es (at contents n w k s false) (at contents n' w' k' s' b') a a' → Did r es (writer contents w) (writer contents w') a a'
by_flag contents n n' k k' w w' s s' false h =
    let j = h.happened in
    record { done = h.done; rest = h.rest; whole = h.whole; finished = h.finished; happened = record { text = j.text; errors = j.errors; budget = j.budget; tally = j.tally; beside = refl; borrowed = refl; stays = j.stays }; fault = h.fault; environment = h.environment; path = h.path }
by_flag contents n n' k k' w w' s s' true h = absurd (let e : contents (writer_in w') ∷ [] ≡ [] = h.happened.beside in cc)

-- what an output without a buffer was given, its writer was
pub did_by_writer : {W B : Type 0} {q : Result (Unit {0}) Halt} {es : List Event} {a a' : Status B} (contents : W → Option Text) (r : Result (Unit {0}) WriteFault) (w w' : Counting W) (out out' : Output W) → without_error r ≡ q → out.writer.now ≡ w → out.is_buffered ≡ false → w' ≡ out'.writer.now
    → Did q es (outside contents out) (outside contents out') a a' → Did (without_error r) es (writer contents w) (writer contents w') a a'
did_by_writer {q = q} {es} {a} {a'} contents r w w' out out' same is through after' h =
    let h1 = subst (λ b. Did q es (at contents out.writer.ghost_name out.writer.now out.buffer.ghost_name out.buffer.now b) (outside contents out') a a') through h in
    let h2 = by_flag contents out.writer.ghost_name out'.writer.ghost_name out.buffer.ghost_name out'.buffer.ghost_name out.writer.now out'.writer.now out.buffer.now out'.buffer.now out'.is_buffered h1 in
    let h3 = subst (λ v. Did q es (writer contents v) (writer contents out'.writer.now) a a') is h2 in
    let h4 = subst (λ v. Did q es (writer contents w) (writer contents v) a a') (sym after') h3 in
    subst (λ r. Did r es (writer contents w) (writer contents w') a a') (sym same) h4

-- what is written goes outside where no text is kept
pub did_outside : {W T B : Type 0} {r : Result T Halt} {es : List Event} {a a' : Status B} (contents : W → Option Text) (out out' : Output W) → out.is_kept ≡ false → out'.is_kept ≡ false → Did r es (sink contents out) (sink contents out') a a' → Did r es (outside contents out) (outside contents out') a a'
did_outside {r = r} {es} {a} {a'} contents out out' none none' h =
    subst (λ k. Did r es (outside contents out) (keeping k out'.kept.now (contents (writer_in out'.writer.now)) (string_bytes out'.buffer.now) (outside contents out')) a a') none'
    (subst (λ k. Did r es (keeping k out.kept.now (contents (writer_in out.writer.now)) (string_bytes out.buffer.now) (outside contents out)) (sink contents out') a a') none h)

-- ---- values that are given

silent_first : (done rest : List Event) → text_in (done ++ rest) ≡ [] → text_in done ≡ []
silent_first [] rest h = refl
silent_first (wrote c ∷ done) rest h = absurd cc
silent_first (told e ∷ done) rest h = silent_first done rest h
silent_first (opened ∷ done) rest h = silent_first done rest h
silent_first (reached_limit ∷ done) rest h = silent_first done rest h
silent_first (entered n ∷ done) rest h = silent_first done rest h

-- events that write nothing, wherever
quietly : {B : Type 0} {done : List Event} {w w' : Sink} {s s' : Status B} → text_in done ≡ [] → Happened done w w' s s' → (v : Sink) → Happened done v v s s'
quietly none h v = record { text = subst (Appends v.held v.held) (sym none) (appends_none v.held); errors = h.errors; budget = h.budget; tally = h.tally; beside = refl; borrowed = refl; stays = h.stays }

pub gets : {T E B : Type 0} {q : Result T Halt} {r : Result T E} {see : T → List (Value Text) × Map (Value Text)} {rest : Rest Text} {w w' : Sink} {s s1 s2 : Status B} {args : Map (Value Text)} → text_in rest.events ≡ [] → s.environment ≡ application args → s.path ≡ [] → Rests args s1 s2
    → IfOk r (λ v. q ≡ Ok v) → Tried q rest (λ v. Some (see v)) w w' s s1 → Gets r see rest s s2
gets {T} {q = q} {r} {see} {rest} {w} {w'} {s} {s1} {s2} silent home idle k is h = by r is
  where
    there : (v : Sink) → Happened h.done v v s s2
    there = quietly (silent_first h.done h.prefix.rest (ap text_in h.prefix.whole ∙ silent)) (happened_rested k h.happened)

    by : {E : Type 0} (r : Result T E) → IfOk r (λ v. q ≡ Ok v) → Gets r see rest s s2
    by (Ok v) is = record {
      done = h.done;
      left = [];
      whole = append-nil h.done ∙ at_ok is h.whole;
      finished = refl;
      silent = silent_first h.done h.prefix.rest (ap text_in h.prefix.whole ∙ silent);
      happened = there;
      values = sym (subst (λ q. IfOk q (λ v. Some (see v) ≡ rest.values)) is h.values);
      environment = k.environment ∙ sym home;
      path = k.path ∙ sym idle;
    }
    by (Err e) is = record {
      done = h.done;
      left = h.prefix.rest;
      whole = h.prefix.whole;
      finished = tt;
      silent = silent_first h.done h.prefix.rest (ap text_in h.prefix.whole ∙ silent);
      happened = there;
      values = tt;
      environment = k.environment ∙ sym home;
      path = k.path ∙ sym idle;
    }

-- of the same arguments
pub gets_as : {T E B : Type 0} {r : Result T E} {see : T → List (Value Text) × Map (Value Text)} {a b : Status B} {o o' : Option Arguments} → o ≡ o' → Gets r see (given_ahead o' a) a b → Gets r see (given_ahead o a) a b
gets_as {r = r} {see} {a} {b} is h = subst (λ o. Gets r see (given_ahead o a) a b) (sym is) h

-- none are given
pub gets_none : {C E B : Type 0} (content : C → Text) (x : Vec (FluentValue C) Global) (y : FluentArgs C) (rest : Rest Text) (a : Status B) → rest.events ≡ [] → rest.values ≡ Some ([], []) → x.items ≡ [] → named content y ≡ [] → Gets {E = E} (Ok (x, y)) (given_values content) rest a a
gets_none content x y rest a none values first second = record {
  done = [];
  left = [];
  whole = sym none;
  finished = refl;
  silent = refl;
  happened = λ w. nothing_happened w a;
  values = values ∙ ap (λ m. Some ([], m)) (sym second) ∙ ap (λ vs. Some (map (value_view content) vs, named content y)) (sym first);
  environment = refl;
  path = refl;
}

-- ---- which runs these are

pub tracked_runs : {B : Type 0} → CallsByThemselves Text → EventsAreTheRun Text → (p : Pattern) (x : Inline) (a : Status B) → TrackedRuns p x a
tracked_runs calls law p x a =
    let h = law.reference a.bundle a.environment a.path p x a.budget in
    let same = sym (calls.reference a.bundle a.environment a.path p x a.budget) in
    record { text = h.text ∙ ap (λ (r : Ran Text). r.value) same; errors = h.errors ∙ ap (λ (r : Ran Text). r.errors) same; left = h.budget ∙ ap (λ (r : Ran Text). r.budget) same }

pub maybe_tracked_runs : {B : Type 0} → CallsByThemselves Text → EventsAreTheRun Text → (p : Pattern) (e : Expression) (a : Status B) → MaybeTrackedRuns p e a
maybe_tracked_runs calls law p e a =
    let h = law.placeable a.bundle a.environment (inner a.path p) e a.budget in
    let same = sym (calls.placeable a.bundle a.environment a.path p e a.budget) in
    record { text = h.text ∙ ap (λ (r : Ran Text). r.value) same; errors = h.errors ∙ ap (λ (r : Ran Text). r.errors) same; left = h.budget ∙ ap (λ (r : Ran Text). r.budget) same }

pub given_run : {B : Type 0} → CallsByThemselves Text → EventsAreTheRun Text → (o : Option Arguments) (a : Status B) → GivenRun o a
given_run calls law None a = tt
given_run calls law (Some k) a =
    let h = law.arguments a.bundle a.environment a.path k a.budget in
    let same = sym (calls.arguments a.bundle a.environment a.path k a.budget) in
    record { values = h.values ∙ ap (λ (r : Ran (List (Value Text) × Map (Value Text))). Some r.value) same; text = h.text; errors = h.errors ∙ ap (λ (r : Ran (List (Value Text) × Map (Value Text))). r.errors) same; left = h.budget ∙ ap (λ (r : Ran (List (Value Text) × Map (Value Text))). r.budget) same }
