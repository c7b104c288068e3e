-- Errors of which a beginning was told.
use Rattle.std.specs.Prelude.{alloc_error}
use Rattle.std.specs.declared.alloc.AllocError.{AllocError}
use Rattle.std.proofs.Common.{◌≡◌, refl, sym, ap, subst, ◌∙◌, List, [], ◌∷◌, ◌++◌, append-nil, append_assoc, Result, Ok, Err, OnOk}
use Rattle.fluent_semantics.specs.Errors.{Error}
use Rattle.fluent_semantics.specs.Events.{Event, told, tells}
use Rattle.fluent_resolver_state.specs.Facts.Happening.{happened_on, happened_told, stays_on, stays_same, with_more, with_none}
use Rattle.fluent_resolver_state.specs.Happened.{Did, Happened}
use Rattle.fluent_resolver_state.specs.Status.{Status, with_errors}
use Rattle.fluent_resolver_state.specs.Steps.{ReportsIfOk, ReportsSome}
use Rattle.fluent_values.specs.Facts.Took.{at_ok, never}
use Rattle.fluent_values.specs.Sinks.{Sink, CountsTell}
use Rattle.fluent_values.specs.declared.output.Halt.{Halt}
use Rattle.fluent_values.specs.declared.output.Halt.TheVariants.{Memory}

pub tells_on : (es fs : List Error) → tells (es ++ fs) ≡ tells es ++ tells fs
tells_on [] fs = refl
tells_on (e ∷ es) fs = ap (λ l. told e ∷ l) (tells_on es fs)

-- ---- what is told

-- none was to be
pub some_of_none : {T E B : Type 0} (r : Result T E) (a : Status B) {es : List Error} → es ≡ [] → ReportsSome r es a a
some_of_none r a is = record { done = []; rest = []; whole = sym is; finished = by r refl; added = sym (with_none a.errors); budget = refl; tally = refl; environment = refl; path = refl; stays = stays_same a }
  where
    by : {T E P : Type 0} (r : Result T E) → P → OnOk r P
    by (Ok x) h = h
    by (Err e) h = tt

-- all or none
pub some_of_report : {T E B : Type 0} (r : Result T E) {es : List Error} {a b : Status B} → ReportsIfOk r es a b → ReportsSome r es a b
some_of_report (Ok x) {es} h = record { done = es; rest = []; whole = append-nil es; finished = refl; added = h.added; budget = h.budget; tally = h.tally; environment = h.environment; path = h.path; stays = h.stays }
some_of_report (Err e) {es} h = record { done = []; rest = es; whole = refl; finished = tt; added = h.alloc_failed; budget = h.budget; tally = h.tally; environment = h.environment; path = h.path; stays = h.stays }

pub some_as : {T E B : Type 0} {r : Result T E} {es fs : List Error} {a b : Status B} → es ≡ fs → ReportsSome r es a b → ReportsSome r fs a b
some_as {r = r} {a = a} {b} is h = subst (λ es. ReportsSome r es a b) is h

-- where all were told, they are
pub all_told : {T E B : Type 0} {r : Result T E} {x : T} {es : List Error} {a b : Status B} → r ≡ Ok x → (h : ReportsSome r es a b) → h.done ≡ es
all_told is h = sym (append-nil h.done) ∙ ap (λ l. h.done ++ l) (sym (at_ok is h.finished)) ∙ h.whole

-- another answer, where all were told
pub some_ok : {S T D E B : Type 0} {q : Result S D} {x : S} {r : Result T E} {es : List Error} {a b : Status B} → q ≡ Ok x → ReportsSome q es a b → ReportsSome r es a b
some_ok {r = r} is h = record { done = h.done; rest = h.rest; whole = h.whole; finished = by r (at_ok is h.finished); added = h.added; budget = h.budget; tally = h.tally; environment = h.environment; path = h.path; stays = h.stays }
  where
    by : {T E P : Type 0} (r : Result T E) → P → OnOk r P
    by (Ok x) h = h
    by (Err e) h = tt

-- some, and then others
pub some_on : {S T D E B : Type 0} {q : Result S D} {r : Result T E} {x : S} {es fs : List Error} {a b c : Status B} → q ≡ Ok x → ReportsSome q es a b → ReportsSome r fs b c → ReportsSome r (es ++ fs) a c
some_on {es = es} {a = a} is h k = record {
  done = es ++ k.done;
  rest = k.rest;
  whole = append_assoc es k.done k.rest ∙ ap (λ l. es ++ l) k.whole;
  finished = k.finished;
  added = k.added ∙ ap (λ o. with_errors o k.done) (h.added ∙ ap (with_errors a.errors) (all_told is h)) ∙ with_more a.errors es k.done;
  budget = k.budget ∙ h.budget;
  tally = k.tally ∙ h.tally;
  environment = k.environment ∙ h.environment;
  path = k.path ∙ h.path;
  stays = stays_on h.stays k.stays;
}

-- a fault, and none of those that were to come
pub some_fails : {S T D B : Type 0} {q : Result S D} {r : Result T AllocError} {es : List Error} {a b : Status B} (fs : List Error) → r ≡ Err alloc_error → ReportsSome q es a b → ReportsSome r (es ++ fs) a b
some_fails fs is h = record {
  done = h.done;
  rest = h.rest ++ fs;
  whole = sym (append_assoc h.done h.rest fs) ∙ ap (λ l. l ++ fs) h.whole;
  finished = never _ is;
  added = h.added;
  budget = h.budget;
  tally = h.tally;
  environment = h.environment;
  path = h.path;
  stays = h.stays;
}

-- a fault, which nothing was to come after
pub some_failed : {S T D B : Type 0} {q : Result S D} {r : Result T AllocError} {es : List Error} {a b : Status B} → r ≡ Err alloc_error → ReportsSome q es a b → ReportsSome r es a b
some_failed {es = es} is h = some_as (append-nil es) (some_fails [] is h)

-- a fault before any was told
pub none_yet : {T B : Type 0} {r : Result T AllocError} (es : List Error) (a : Status B) → r ≡ Err alloc_error → ReportsSome r es a a
none_yet es a is = some_fails es is (some_of_none {T = Unit {0}} {E = AllocError} (Ok tt) a refl)

-- ---- as events

pub happened_some : {T E B : Type 0} {r : Result T E} {es : List Error} {a b : Status B} (w : Sink) (h : ReportsSome r es a b) → Happened (tells h.done) w w a b
happened_some {a = a} {b} w h = happened_told w refl whole
  where
    whole : ReportsIfOk {T = Unit {0}} {E = Unit {0}} (Ok tt) h.done a b
    whole = record { added = h.added; alloc_failed = tt; budget = h.budget; tally = h.tally; environment = h.environment; path = h.path; stays = h.stays }

pub happened_all : {T E B : Type 0} {r : Result T E} {x : T} {es : List Error} {a b : Status B} (w : Sink) → r ≡ Ok x → ReportsSome r es a b → Happened (tells es) w w a b
happened_all {a = a} {b} w is h = subst (λ es. Happened (tells es) w w a b) (all_told is h) (happened_some w h)

-- no more than some errors was told, for want of memory
pub did_some : {S T E B : Type 0} {r : Result T Halt} {q : Result S E} {es : List Error} {a b : Status B} (fs : List Event) (w : Sink) → r ≡ Err Memory → ReportsSome q es a b → Did r (tells es ++ fs) w w a b
did_some fs w is h = record {
  done = tells h.done;
  rest = tells h.rest ++ fs;
  whole = sym (append_assoc (tells h.done) (tells h.rest) fs) ∙ ap (λ l. l ++ fs) (sym (tells_on h.done h.rest) ∙ ap tells h.whole);
  finished = never _ is;
  happened = happened_some w h;
  fault = subst (CountsTell w.failed w.empty w.failed w.empty) (sym is) (refl, refl);
  environment = h.environment;
  path = h.path;
}

-- errors were told, and then more was done
pub did_after : {S T E B : Type 0} {r : Result T Halt} {q : Result S E} {x : S} {es : List Error} {fs : List Event} {w w' : Sink} {a b c : Status B} → q ≡ Ok x → ReportsSome q es a b → Did r fs w w' b c → Did r (tells es ++ fs) w w' a c
did_after {es = es} {w = w} is h k = record {
  done = tells es ++ k.done;
  rest = k.rest;
  whole = append_assoc (tells es) k.done k.rest ∙ ap (λ l. tells es ++ l) k.whole;
  finished = k.finished;
  happened = happened_on (happened_all w is h) k.happened;
  fault = k.fault;
  environment = k.environment ∙ h.environment;
  path = k.path ∙ h.path;
}
