-- Events that happened one after another.
use Rattle.std.proofs.Common.{◌≡◌, refl, sym, ap, subst, ◌∙◌, zero, suc, List, [], ◌∷◌, ◌++◌, append-nil, append_assoc, Bool, true, false, Option, Some, None, Result, Ok, Err, OnOk, OnErr, IfOk}
use Rattle.std.specs.Bool.{OnTrue, OnFalse}
use Rattle.std.specs.Prelude.{alloc_error}
use Rattle.std.specs.declared.alloc.AllocError.{AllocError}
use Rattle.std.specs.Io.KnownBytes.{Appends}
use Rattle.fluent_ast.specs.Tree.{Text}
use Rattle.fluent_semantics.specs.Errors.{Error}
use Rattle.fluent_semantics.specs.Events.{Event, wrote, told, opened, reached_limit, entered, writes, tells, text_in, errors_in, spent, less_one}
use Rattle.fluent_semantics.specs.Meaning.{Budget, left, limit_reached}
use Rattle.fluent_resolver_state.specs.Status.{Status, Tally, with_errors}
use Rattle.fluent_resolver_state.specs.Happened.{tallied, Stays, Happened, Did}
use Rattle.fluent_resolver_state.specs.Steps.{ReportsIfOk, TakesOne, can_open}
use Rattle.fluent_values.specs.Facts.Took.{appends_none, appends_on, at_ok, at_err, never}
use Rattle.fluent_values.specs.Sinks.{Sink, SinkTook, CountsTell}
use Rattle.fluent_values.specs.declared.output.Halt.{Halt}
use Rattle.fluent_values.specs.declared.output.Halt.TheVariants.{Memory}

-- ---- what events come to, after others

text_on : (a b : List Event) → text_in (a ++ b) ≡ text_in a ++ text_in b
text_on [] b = refl
text_on (wrote c ∷ a) b = ap (λ y. c ∷ y) (text_on a b)
text_on (told e ∷ a) b = text_on a b
text_on (opened ∷ a) b = text_on a b
text_on (reached_limit ∷ a) b = text_on a b
text_on (entered n ∷ a) b = text_on a b

errors_on : (a b : List Event) → errors_in (a ++ b) ≡ errors_in a ++ errors_in b
errors_on [] b = refl
errors_on (wrote c ∷ a) b = errors_on a b
errors_on (told e ∷ a) b = ap (λ y. e ∷ y) (errors_on a b)
errors_on (opened ∷ a) b = errors_on a b
errors_on (reached_limit ∷ a) b = errors_on a b
errors_on (entered n ∷ a) b = errors_on a b

spent_on : (a b : List Event) (n : Budget) → spent (a ++ b) n ≡ spent b (spent a n)
spent_on [] b n = refl
spent_on (wrote c ∷ a) b n = spent_on a b n
spent_on (told e ∷ a) b n = spent_on a b n
spent_on (opened ∷ a) b n = spent_on a b (less_one n)
spent_on (reached_limit ∷ a) b n = spent_on a b limit_reached
spent_on (entered i ∷ a) b n = spent_on a b n

tallied_on : (a b : List Event) (c : Tally) → tallied (a ++ b) c ≡ tallied b (tallied a c)
tallied_on [] b c = refl
tallied_on (wrote x ∷ a) b c = tallied_on a b c
tallied_on (told e ∷ a) b c = tallied_on a b c
tallied_on (opened ∷ a) b c = tallied_on a b _
tallied_on (reached_limit ∷ a) b c = tallied_on a b c
tallied_on (entered n ∷ a) b c = tallied_on a b _

text_of_writes : (t : Text) → text_in (writes t) ≡ t
text_of_writes [] = refl
text_of_writes (c ∷ t) = ap (λ y. c ∷ y) (text_of_writes t)

errors_of_writes : (t : Text) → errors_in (writes t) ≡ []
errors_of_writes [] = refl
errors_of_writes (c ∷ t) = errors_of_writes t

spent_of_writes : (t : Text) (n : Budget) → spent (writes t) n ≡ n
spent_of_writes [] n = refl
spent_of_writes (c ∷ t) n = spent_of_writes t n

tallied_of_writes : (t : Text) (c : Tally) → tallied (writes t) c ≡ c
tallied_of_writes [] c = refl
tallied_of_writes (x ∷ t) c = tallied_of_writes t c

text_of_tells : (es : List Error) → text_in (tells es) ≡ []
text_of_tells [] = refl
text_of_tells (e ∷ es) = text_of_tells es

errors_of_tells : (es : List Error) → errors_in (tells es) ≡ es
errors_of_tells [] = refl
errors_of_tells (e ∷ es) = ap (λ y. e ∷ y) (errors_of_tells es)

spent_of_tells : (es : List Error) (n : Budget) → spent (tells es) n ≡ n
spent_of_tells [] n = refl
spent_of_tells (e ∷ es) n = spent_of_tells es n

tallied_of_tells : (es : List Error) (c : Tally) → tallied (tells es) c ≡ c
tallied_of_tells [] c = refl
tallied_of_tells (e ∷ es) c = tallied_of_tells es c

pub writes_on : (a b : Text) → writes (a ++ b) ≡ writes a ++ writes b
writes_on [] b = refl
writes_on (c ∷ a) b = ap (λ y. wrote c ∷ y) (writes_on a b)

-- ---- states

pub stays_same : {B : Type 0} (a : Status B) → Stays a a
stays_same a = record { bundle = refl; borrow = refl; list = refl; stored = refl; is_plain = refl }

pub stays_on : {B : Type 0} {a b c : Status B} → Stays a b → Stays b c → Stays a c
stays_on h j = record { bundle = j.bundle ∙ h.bundle; borrow = j.borrow ∙ h.borrow; list = j.list ∙ h.list; stored = j.stored ∙ h.stored; is_plain = j.is_plain ∙ h.is_plain }

pub with_none : (o : Option (List Error)) → with_errors o [] ≡ o
with_none None = refl
with_none (Some l) = ap (λ es. Some es) (append-nil l)

pub with_more : (o : Option (List Error)) (xs ys : List Error) → with_errors (with_errors o xs) ys ≡ with_errors o (xs ++ ys)
with_more None xs ys = refl
with_more (Some l) xs ys = ap (λ es. Some es) (append_assoc l xs ys)

-- ---- what happened

pub nothing_happened : {B : Type 0} (w : Sink) (a : Status B) → Happened [] w w a a
nothing_happened w a = record { text = appends_none w.held; errors = sym (with_none a.errors); budget = refl; tally = refl; beside = refl; borrowed = refl; stays = stays_same a }

pub happened_on : {B : Type 0} {d e : List Event} {w1 w2 w3 : Sink} {a b c : Status B} → Happened d w1 w2 a b → Happened e w2 w3 b c → Happened (d ++ e) w1 w3 a c
happened_on {d = d} {e} {w1} {w2} {w3} {a} {b} {c} h j = record {
  text = subst (Appends w1.held w3.held) (sym (text_on d e)) (appends_on w1.held w2.held w3.held (text_in d) (text_in e) h.text j.text);
  errors = j.errors ∙ ap (λ o. with_errors o (errors_in e)) h.errors ∙ with_more a.errors (errors_in d) (errors_in e) ∙ ap (with_errors a.errors) (sym (errors_on d e));
  budget = j.budget ∙ ap (spent e) h.budget ∙ sym (spent_on d e a.budget);
  tally = j.tally ∙ ap (tallied e) h.tally ∙ sym (tallied_on d e a.tally);
  beside = j.beside ∙ h.beside;
  borrowed = j.borrowed ∙ h.borrowed;
  stays = stays_on h.stays j.stays;
}

-- nothing happened, and environment or path may have changed
pub happened_as : {B : Type 0} {a b : Status B} (w : Sink) → b.errors ≡ a.errors → b.budget ≡ a.budget → b.tally ≡ a.tally → Stays a b → Happened [] w w a b
happened_as {a = a} w e n t s = record { text = appends_none w.held; errors = e ∙ sym (with_none a.errors); budget = n; tally = t; beside = refl; borrowed = refl; stays = s }

-- a text was taken
pub happened_took : {T B : Type 0} {r : Result T Halt} {t : Text} {w w' : Sink} (a : Status B) (h : SinkTook r t w w') → Happened (writes h.taken) w w' a a
happened_took {w = w} {w' = w'} a h = record {
  text = subst (Appends w.held w'.held) (sym (text_of_writes h.taken)) h.held;
  errors = sym (ap (with_errors a.errors) (errors_of_writes h.taken) ∙ with_none a.errors);
  budget = sym (spent_of_writes h.taken a.budget);
  tally = sym (tallied_of_writes h.taken a.tally);
  beside = h.beside;
  borrowed = h.borrowed;
  stays = stays_same a;
}

-- errors were told
pub happened_told : {T E B : Type 0} {r : Result T E} {x : T} {es : List Error} {a b : Status B} (w : Sink) → r ≡ Ok x → ReportsIfOk r es a b → Happened (tells es) w w a b
happened_told {es = es} {a} {b} w is h = record {
  text = subst (Appends w.held w.held) (sym (text_of_tells es)) (appends_none w.held);
  errors = at_ok is h.added ∙ ap (with_errors a.errors) (sym (errors_of_tells es));
  budget = h.budget ∙ sym (spent_of_tells es a.budget);
  tally = h.tally ∙ sym (tallied_of_tells es a.tally);
  beside = refl;
  borrowed = refl;
  stays = h.stays;
}

-- or none
pub happened_untold : {T E B : Type 0} {r : Result T E} {e : E} {es : List Error} {a b : Status B} (w : Sink) → r ≡ Err e → ReportsIfOk r es a b → Happened [] w w a b
happened_untold {a = a} w is h = happened_as w (at_err is h.alloc_failed ∙ with_none a.errors) h.budget h.tally h.stays

-- a placeable was opened, or the limit was reached
pub happened_opened : {B : Type 0} {r : Bool} {a b : Status B} (w : Sink) → r ≡ true → TakesOne r a b → Happened (opened ∷ []) w w a b
happened_opened {r = r} {a} {b} w is h = record { text = appends_none w.held; errors = h.errors ∙ sym (with_none a.errors); budget = h.budget; tally = if_true is h.opened; beside = refl; borrowed = refl; stays = h.stays }
  where
    if_true : {P : Type 0} {r : Bool} → r ≡ true → OnTrue r P → P
    if_true {P} is h = subst (λ b. OnTrue b P) is h

no_more : (n : Budget) → can_open n ≡ false → less_one n ≡ limit_reached
no_more (left zero) h = refl
no_more (left (suc n)) h = cc
no_more limit_reached h = refl

pub happened_limit : {B : Type 0} {r : Bool} {a b : Status B} (w : Sink) → r ≡ can_open a.budget → r ≡ false → TakesOne r a b → Happened (reached_limit ∷ []) w w a b
happened_limit {r = r} {a} {b} w opens is h = record { text = appends_none w.held; errors = h.errors ∙ sym (with_none a.errors); budget = h.budget ∙ no_more a.budget (sym opens ∙ is); tally = if_false is h.same; beside = refl; borrowed = refl; stays = h.stays }
  where
    if_false : {P : Type 0} {r : Bool} → r ≡ false → OnFalse r P → P
    if_false {P} is h = subst (λ b. OnFalse b P) is h

-- ---- calls

pub did_as : {T B : Type 0} {r : Result T Halt} {es fs : List Event} {w w' : Sink} {a b : Status B} → es ≡ fs → Did r es w w' a b → Did r fs w w' a b
did_as {r = r} {w = w} {w'} {a} {b} is h = subst (λ es. Did r es w w' a b) is h

-- a text was put
pub did_put : {T B : Type 0} {r : Result T Halt} {t : Text} {w w' : Sink} (a : Status B) → SinkTook r t w w' → Did r (writes t) w w' a a
did_put {r = r} {t} {w} {w'} a h = record {
  done = writes h.taken;
  rest = writes h.left;
  whole = sym (writes_on h.taken h.left) ∙ ap writes h.begins;
  finished = on_ok r (ap writes) h.done;
  happened = happened_took a h;
  fault = h.fault;
  environment = refl;
  path = refl;
}
  where
    on_ok : {T E P Q : Type 0} (r : Result T E) → (P → Q) → OnOk r P → OnOk r Q
    on_ok (Ok x) f h = f h
    on_ok (Err e) f h = tt

-- nothing was done, for want of memory
pub did_nothing : {T E S B : Type 0} {r : Result T Halt} {q : Result S E} {e : E} {es : List Error} {a b : Status B} (all : List Event) (w : Sink) → r ≡ Err Memory → q ≡ Err e → ReportsIfOk q es a b → Did r all w w a b
did_nothing {r = r} all w is was h = record {
  done = [];
  rest = all;
  whole = refl;
  finished = never _ is;
  happened = happened_untold w was h;
  fault = subst (CountsTell w.failed w.empty w.failed w.empty) (sym is) (refl, refl);
  environment = h.environment;
  path = h.path;
}

-- errors were told, and then a text was put
pub did_tell_and_put : {T S E B : Type 0} {r : Result T Halt} {q : Result S E} {x : S} {t : Text} {es : List Error} {w w' : Sink} {a b : Status B} → q ≡ Ok x → ReportsIfOk q es a b → SinkTook r t w w' → Did r (tells es ++ writes t) w w' a b
did_tell_and_put {r = r} {es = es} {w = w} {w'} {a} {b} was h k =
    let put = did_put b k in
    record {
      done = tells es ++ put.done;
      rest = put.rest;
      whole = append_assoc (tells es) put.done put.rest ∙ ap (λ y. tells es ++ y) put.whole;
      finished = put.finished;
      happened = happened_on (happened_told w was h) put.happened;
      fault = put.fault;
      environment = h.environment;
      path = h.path;
    }

-- nothing was done, for want of memory, and the state is the same
pub did_memory : {T B : Type 0} {r : Result T Halt} (all : List Event) (w : Sink) (a : Status B) → r ≡ Err Memory → Did r all w w a a
did_memory {r = r} all w a is = record {
  done = [];
  rest = all;
  whole = refl;
  finished = never _ is;
  happened = nothing_happened w a;
  fault = subst (CountsTell w.failed w.empty w.failed w.empty) (sym is) (refl, refl);
  environment = refl;
  path = refl;
}

-- ---- errors that are told, or none

pub no_report : {T E B : Type 0} (r : Result T E) (a : Status B) {es : List Error} → es ≡ [] → ReportsIfOk r es a a
no_report r a {es} is = record {
  added = by r (sym (ap (with_errors a.errors) is ∙ with_none a.errors));
  alloc_failed = by_err r (sym (with_none a.errors));
  budget = refl;
  tally = refl;
  environment = refl;
  path = refl;
  stays = stays_same a;
}
  where
    by : {T E P : Type 0} (r : Result T E) → P → OnOk r P
    by (Ok x) h = h
    by (Err e) h = tt

    by_err : {T E P : Type 0} (r : Result T E) → P → OnErr r P
    by_err (Ok x) h = tt
    by_err (Err e) h = h

pub reports_ok : {S T E D B : Type 0} {q : Result S E} {y : S} {es fs : List Error} {a b : Status B} (x : T) → q ≡ Ok y → es ≡ fs → ReportsIfOk q es a b → ReportsIfOk {E = D} (Ok x) fs a b
reports_ok {a = a} x was is h = record { added = at_ok was h.added ∙ ap (with_errors a.errors) is; alloc_failed = tt; budget = h.budget; tally = h.tally; environment = h.environment; path = h.path; stays = h.stays }

pub reports_err : {S T B : Type 0} {q : Result S AllocError} {es : List Error} {a b : Status B} {r : Result T AllocError} (fs : List Error) → q ≡ Err alloc_error → r ≡ Err alloc_error → ReportsIfOk q es a b → ReportsIfOk r fs a b
reports_err {a = a} {b} {r = r} fs was is h = record { added = never _ is; alloc_failed = subst (λ r. OnErr r (b.errors ≡ with_errors a.errors [])) (sym is) (at_err was h.alloc_failed); budget = h.budget; tally = h.tally; environment = h.environment; path = h.path; stays = h.stays }

pub if_ok : {T E : Type 0} {P Q : T → Type 0} (r : Result T E) → ((x : T) → P x → Q x) → IfOk r P → IfOk r Q
if_ok (Ok x) f h = f x h
if_ok (Err e) f h = tt

pub if_never : {T : Type 0} (P : T → Type 0) (r : Result T AllocError) → r ≡ Err alloc_error → IfOk r P
if_never P r is = subst (λ r. IfOk r P) (sym is) tt

-- there is one such error alone
pub err_is : {T : Type 0} {r : Result T AllocError} {e : AllocError} → r ≡ Err e → r ≡ Err alloc_error
err_is h = h
