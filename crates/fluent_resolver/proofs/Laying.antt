-- Errors that are told and texts that are put, to where they go.
use Rattle.std.proofs.Common.{◌≡◌, refl, sym, ap, subst, ◌∙◌, ℕ, List, [], ◌∷◌, ◌++◌, ◌⊎◌, inl, inr, append-nil, append_assoc, Bool, true, false, Option, Some, None, Result, Ok, Err, OnOk, OnErr, IfOk, String, Global, string_bytes, true≢false}
use Rattle.std.specs.Io.KnownBytes.{Appends}
use Rattle.fluent_ast.specs.Tree.{Text}
use Rattle.fluent_text.specs.Writer.{writer_in}
use Rattle.fluent_text.specs.declared.counting.Counting.{Counting}
use Rattle.fluent_semantics.specs.Ahead.{Rest, Values, after}
use Rattle.fluent_semantics.specs.Bundle.{Bundle}
use Rattle.fluent_semantics.specs.Errors.{Error}
use Rattle.fluent_semantics.specs.Events.{Event, wrote, told, opened, reached_limit, entered, errors_in, silent, spent, tells, text_in, writes, less_one}
use Rattle.fluent_semantics.specs.Meaning.{Budget, limit_reached}
use Rattle.fluent_resolver_state.specs.Facts.Happening.{did_put}
use Rattle.fluent_resolver_state.specs.Happened.{Did, Happened, tallied}
use Rattle.fluent_resolver_state.specs.Status.{Status, Tally, with_errors}
use Rattle.fluent_values.specs.Facts.Took.{appends_none, at_err, at_ok}
use Rattle.fluent_values.specs.Sinks.{Sink, SinkTook, CountsTell, at, keeping, outside, sink}
use Rattle.fluent_values.specs.declared.output.Halt.{Halt}
use Rattle.fluent_values.specs.declared.output.Output.{Output}
use Rattle.fluent_resolver.specs.Frames.{Along, Stopped, Went, kept_before}
use Rattle.fluent_resolver.specs.Inside.Parts.{View, Following, goes_on, tells_and_puts, text_then}
use Rattle.fluent_resolver.proofs.Going.{faults_on, happens, same_fault, stopped_on, turns}

-- ---- events that write nothing

silent_text : (es : List Event) → text_in (silent es) ≡ []
silent_text [] = refl
silent_text (wrote c ∷ es) = silent_text es
silent_text (told e ∷ es) = silent_text es
silent_text (opened ∷ es) = silent_text es
silent_text (reached_limit ∷ es) = silent_text es
silent_text (entered n ∷ es) = silent_text es

silent_errors : (es : List Event) → errors_in (silent es) ≡ errors_in es
silent_errors [] = refl
silent_errors (wrote c ∷ es) = silent_errors es
silent_errors (told e ∷ es) = ap (λ y. e ∷ y) (silent_errors es)
silent_errors (opened ∷ es) = silent_errors es
silent_errors (reached_limit ∷ es) = silent_errors es
silent_errors (entered n ∷ es) = silent_errors es

silent_budget : (es : List Event) (b : Budget) → spent (silent es) b ≡ spent es b
silent_budget [] b = refl
silent_budget (wrote c ∷ es) b = silent_budget es b
silent_budget (told e ∷ es) b = silent_budget es b
silent_budget (opened ∷ es) b = silent_budget es (less_one b)
silent_budget (reached_limit ∷ es) b = silent_budget es limit_reached
silent_budget (entered n ∷ es) b = silent_budget es b

silent_tally : (es : List Event) (c : Tally) → tallied (silent es) c ≡ tallied es c
silent_tally [] c = refl
silent_tally (wrote x ∷ es) c = silent_tally es c
silent_tally (told e ∷ es) c = silent_tally es c
silent_tally (opened ∷ es) c = silent_tally es _
silent_tally (reached_limit ∷ es) c = silent_tally es c
silent_tally (entered n ∷ es) c = silent_tally es _

silent_on : (a b : List Event) → silent (a ++ b) ≡ silent a ++ silent b
silent_on [] b = refl
silent_on (wrote c ∷ a) b = silent_on a b
silent_on (told e ∷ a) b = ap (λ y. told e ∷ y) (silent_on a b)
silent_on (opened ∷ a) b = ap (λ y. opened ∷ y) (silent_on a b)
silent_on (reached_limit ∷ a) b = ap (λ y. reached_limit ∷ y) (silent_on a b)
silent_on (entered n ∷ a) b = ap (λ y. entered n ∷ y) (silent_on a b)

silent_tells : (es : List Error) (t : Text) → silent (tells es ++ writes t) ≡ tells es
silent_tells [] [] = refl
silent_tells [] (c ∷ t) = silent_tells [] t
silent_tells (e ∷ es) t = ap (λ y. told e ∷ y) (silent_tells es t)

-- ---- the budget stays

spent_tells : (es : List Error) (t : Text) (b : Budget) → spent (tells es ++ writes t) b ≡ b
spent_tells [] [] b = refl
spent_tells [] (c ∷ t) b = spent_tells [] t b
spent_tells (e ∷ es) t b = spent_tells es t b

text_tells : (es : List Error) (t : Text) → text_in (tells es ++ writes t) ≡ t
text_tells [] [] = refl
text_tells [] (c ∷ t) = ap (λ y. c ∷ y) (text_tells [] t)
text_tells (e ∷ es) t = text_tells es t

after_after : (es fs : List Event) (r : Rest Text) → after es (after fs r) ≡ after (es ++ fs) r
after_after es fs r = ap (λ x. record { events = x; parts = r.parts; values = r.values }) (sym (append_assoc es fs r.events))

-- ---- where texts go

abbrev pub kept_of : {W : Type 0} → Output W → Option Text
kept_of out = kept_before out.is_kept out.kept.now

-- what stands outside is as it was, and the counts tell the answer
record IsOutside {T : Type 0} (r : Result T Halt) (o o' : Sink) : Type 0 where
  held : o'.held ≡ o.held
  beside : o'.beside ≡ o.beside
  borrowed : o'.borrowed ≡ o.borrowed
  fault : CountsTell o.failed o.empty o'.failed o'.empty r

-- texts go outside, or to a text that is kept
record ToOutside {B W T : Type 0} (r : Result T Halt) (contents : W → Option Text) (out out' : Output W) (done : List Event) (s s' : Status B) : Type 0 where
  before : kept_of out ≡ None
  later : kept_of out' ≡ None
  happened : Happened done (outside contents out) (outside contents out') s s'
  fault : CountsTell (outside contents out).failed (outside contents out).empty (outside contents out').failed (outside contents out').empty r

record ToKept {W T : Type 0} (r : Result T Halt) (contents : W → Option Text) (out out' : Output W) (done : List Event) : Type 0 where
  own : Text
  before : kept_of out ≡ Some own
  later : kept_of out' ≡ Some (own ++ text_in done)
  stands : IsOutside r (outside contents out) (outside contents out')

abbrev Side : {W : Type 0} → (W → Option Text) → ℕ → ℕ → Counting W → String Global → String Global → Bool → Bool → Sink
Side contents n m w s t b k = keeping k t (contents (writer_in w)) (string_bytes s) (at contents n w m s b)

module _ {B W T : Type 0} (r : Result T Halt) (contents : W → Option Text) (done : List Event) (a a' : Status B) where
  sorted : (n n' m m' : ℕ) (w w' : Counting W) (s s' t t' : String Global) (b b' k k' : Bool)
      → Happened done (Side contents n m w s t b k) (Side contents n' m' w' s' t' b' k') a a'
      → CountsTell (Side contents n m w s t b k).failed (Side contents n m w s t b k).empty (Side contents n' m' w' s' t' b' k').failed (Side contents n' m' w' s' t' b' k').empty r
      → ((kept_before k t ≡ None) × (kept_before k' t' ≡ None) × Happened done (at contents n w m s b) (at contents n' w' m' s' b') a a' × CountsTell (at contents n w m s b).failed (at contents n w m s b).empty (at contents n' w' m' s' b').failed (at contents n' w' m' s' b').empty r)
      ⊎ ((own : Text) × (kept_before k t ≡ Some own) × (kept_before k' t' ≡ Some (own ++ text_in done)) × IsOutside r (at contents n w m s b) (at contents n' w' m' s' b'))
  sorted n n' m m' w w' s s' t t' b b' false false h f = inl (refl, refl, h, f)
  sorted n n' m m' w w' s s' t t' true b' false true h f = absurd (let e : contents (writer_in w') ∷ Some (string_bytes s') ∷ [] ≡ contents (writer_in w) ∷ [] = h.beside in cc)
  sorted n n' m m' w w' s s' t t' false b' false true h f = absurd (let e : contents (writer_in w') ∷ Some (string_bytes s') ∷ [] ≡ [] = h.beside in cc)
  sorted n n' m m' w w' s s' t t' b true true false h f = absurd (let e : contents (writer_in w') ∷ [] ≡ contents (writer_in w) ∷ Some (string_bytes s) ∷ [] = h.beside in cc)
  sorted n n' m m' w w' s s' t t' b false true false h f = absurd (let e : [] ≡ contents (writer_in w) ∷ Some (string_bytes s) ∷ [] = h.beside in cc)
  sorted n n' m m' w w' s s' t t' true true true true h f =
      let e : contents (writer_in w') ∷ Some (string_bytes s') ∷ [] ≡ contents (writer_in w) ∷ Some (string_bytes s) ∷ [] = h.beside in
      inr (string_bytes t, refl, ap Some h.text, record { held = cc; beside = cc; borrowed = h.borrowed; fault = f })
  sorted n n' m m' w w' s s' t t' false false true true h f =
      let e : contents (writer_in w') ∷ Some (string_bytes s') ∷ [] ≡ contents (writer_in w) ∷ Some (string_bytes s) ∷ [] = h.beside in
      inr (string_bytes t, refl, ap Some h.text, record { held = cc; beside = refl; borrowed = h.borrowed; fault = f })
  sorted n n' m m' w w' s s' t t' true false true true h f = absurd (true≢false (sym (ap (λ l. l.1.1) h.borrowed)))
  sorted n n' m m' w w' s s' t t' false true true true h f = absurd (true≢false (ap (λ l. l.1.1) h.borrowed))

-- ---- what was laid

-- what a run has at hand
abbrev pub viewed : {B W : Type 0} → Output W → Status B → Values Text → View
viewed out a values = record { kept = kept_of out; budget = a.budget; environment = a.environment; path = a.path; values = values }

pub record Laid {B T : Type 0} (r : Result T Halt) (before : Rest Text) (n : ℕ) (now : Rest Text) (n' : ℕ) (w o o' : Sink) (s a' : Status B) : Type 0 where
  pub ok : OnOk r (Along before n now n' w o' s a')
  pub err : OnErr r (Stopped before w o' s a')
  pub fault : CountsTell w.failed w.empty o'.failed o'.empty r

-- nothing outside changed but the counts, and these events happened that write nothing
quietly : {B T : Type 0} {r : Result T Halt} {done : List Event} {w w' o o' : Sink} {a a' : Status B} → IsOutside r o o' → Happened done w w' a a' → Happened (silent done) o o' a a'
quietly {done = done} {o = o} {o'} {a} {a'} i h = record {
  text = subst (Appends o.held o'.held) (sym (silent_text done)) (subst (λ x. Appends o.held x []) (sym i.held) (appends_none o.held));
  errors = h.errors ∙ ap (with_errors a.errors) (sym (silent_errors done));
  budget = h.budget ∙ sym (silent_budget done a.budget);
  tally = h.tally ∙ sym (silent_tally done a.tally);
  beside = i.beside;
  borrowed = i.borrowed;
  stays = h.stays;
}

on_ok : {T E P Q : Type 0} (r : Result T E) → (P → Q) → OnOk r P → OnOk r Q
on_ok (Ok x) f h = f h
on_ok (Err e) f h = tt

on_ok2 : {T P Q : Type 0} {f g f' g' : ℕ} (r : Result T Halt) → CountsTell f g f' g' r → (P → (f' ≡ f) × (g' ≡ g) → Q) → OnOk r P → OnOk r Q
on_ok2 (Ok x) c h p = h p c
on_ok2 (Err e) c h p = tt

on_err : {T E Q : Type 0} (r : Result T E) → Q → OnErr r Q
on_err (Ok x) h = tt
on_err (Err e) h = h

pub laid : {B W T : Type 0} {r : Result T Halt} {before : Rest Text} {n n' : ℕ} {w : Sink} {s : Status B} (contents : W → Option Text) (out out' : Output W) (a a' : Status B) (values : Values Text) (b : Bundle Text) (k : Following) (es : List Error) (t : Text)
    → Did r (tells es ++ writes t) (sink contents out) (sink contents out') a a'
    → Along before n (tells_and_puts es t b k (viewed out a values)) n' w (outside contents out) s a
    → Laid r before n (k None (viewed out' a' values)) n' w (outside contents out) (outside contents out') s a'
laid {B} {W} {T} {r = r} {before} {n} {n'} {w} {s} contents out out' a a' values b k es t h way =
    by (sorted r contents h.done a a' out.writer.ghost_name out'.writer.ghost_name out.buffer.ghost_name out'.buffer.ghost_name out.writer.now out'.writer.now out.buffer.now out'.buffer.now out.kept.now out'.kept.now out.is_buffered out'.is_buffered out.is_kept out'.is_kept h.happened h.fault)
  where
    -- where all was done, what is at hand is as it is said to be
    same_view : h.done ≡ (tells es ++ writes t) → (kept : Option Text) → kept_of out' ≡ kept → record { kept = kept; budget = a.budget; environment = a.environment; path = a.path; values = values } ≡ viewed out' a' values
    same_view whole kept is =
        ap (λ x. record { kept = x; budget = a.budget; environment = a.environment; path = a.path; values = values }) (sym is)
        ∙ ap (λ x. record { kept = kept_of out'; budget = x; environment = a.environment; path = a.path; values = values }) (sym (h.happened.budget ∙ ap (λ d. spent d a.budget) whole ∙ spent_tells es t a.budget))
        ∙ ap (λ x. record { kept = kept_of out'; budget = a'.budget; environment = x; path = a.path; values = values }) (sym h.environment)
        ∙ ap (λ x. record { kept = kept_of out'; budget = a'.budget; environment = a'.environment; path = x; values = values }) (sym h.path)

    whole_if : h.rest ≡ [] → h.done ≡ (tells es ++ writes t)
    whole_if none = sym (append-nil h.done) ∙ ap (λ y. h.done ++ y) (sym none) ∙ h.whole

    by : ((kept_of out ≡ None) × (kept_of out' ≡ None) × Happened h.done (outside contents out) (outside contents out') a a' × CountsTell (outside contents out).failed (outside contents out).empty (outside contents out').failed (outside contents out').empty r)
        ⊎ ((own : Text) × (kept_of out ≡ Some own) × (kept_of out' ≡ Some (own ++ text_in h.done)) × IsOutside r (outside contents out) (outside contents out'))
        → Laid r before n (k None (viewed out' a' values)) n' w (outside contents out) (outside contents out') s a'
    by (inl d) =
        let here : tells_and_puts es t b k (viewed out a values) ≡ after (tells es ++ writes t) (k None (record { kept = None; budget = a.budget; environment = a.environment; path = a.path; values = values })) =
        ap (λ x. after (tells es) (goes_on x (λ kept c. k None (record { kept = kept; budget = c; environment = a.environment; path = a.path; values = values })) t a.budget)) d.0 ∙ after_after (tells es) (writes t) _ in
        let on = turns here way in
        record {
          ok = on_ok2 r d.3 (λ none counted. turns (ap (k None) (same_view (whole_if none) None d.1)) (happens counted (subst (λ e. Happened e (outside contents out) (outside contents out') a a') (whole_if none) d.2) on)) h.finished;
          err = on_err r (stopped_on on (record { done = h.done; happened = d.2; prefix = record { rest = h.rest ++ (k None (record { kept = None; budget = a.budget; environment = a.environment; path = a.path; values = values })).events; whole = sym (append_assoc h.done h.rest _) ∙ ap (λ y. y ++ (k None (record { kept = None; budget = a.budget; environment = a.environment; path = a.path; values = values })).events) h.whole } }));
          fault = faults_on r (outside contents out') way d.3;
        }
    by (inr d) =
        let quiet = quietly d.3 h.happened in
        let there = λ (x : Text). k None (record { kept = Some (d.0 ++ x); budget = a.budget; environment = a.environment; path = a.path; values = values }) in
        let here : tells_and_puts es t b k (viewed out a values) ≡ after (tells es) (there t) =
        ap (λ x. after (tells es) (goes_on x (λ kept c. k None (record { kept = kept; budget = c; environment = a.environment; path = a.path; values = values })) t a.budget)) d.1 in
        let on = turns here way in
        record {
          ok = on_ok2 r d.3.fault (λ none counted.
              let whole = whole_if none in
              turns (ap (k None) (same_view whole (Some (d.0 ++ t)) (d.2 ∙ ap (λ e. Some (d.0 ++ text_in e)) whole ∙ ap (λ x. Some (d.0 ++ x)) (text_tells es t))))
              (happens counted (subst (λ e. Happened e (outside contents out) (outside contents out') a a') (ap silent whole ∙ silent_tells es t) quiet) on)) h.finished;
          err = on_err r (stopped_on on (record { done = silent h.done; happened = quiet; prefix = record { rest = silent h.rest ++ (there t).events; whole = sym (append_assoc (silent h.done) (silent h.rest) _) ∙ ap (λ y. y ++ (there t).events) (sym (silent_on h.done h.rest) ∙ ap silent h.whole ∙ silent_tells es t) } }));
          fault = faults_on r (outside contents out') way d.3.fault;
        }

-- a text alone
pub put : {B W T : Type 0} {r : Result T Halt} {before : Rest Text} {n n' : ℕ} {w : Sink} {s : Status B} (contents : W → Option Text) (out out' : Output W) (a : Status B) (values : Values Text) (b : Bundle Text) (k : Following) (t : Text)
    → SinkTook r t (sink contents out) (sink contents out')
    → Along before n (text_then k (viewed out a values) t a.budget) n' w (outside contents out) s a
    → Laid r before n (k None (viewed out' a values)) n' w (outside contents out) (outside contents out') s a
put contents out out' a values b k t h way = laid contents out out' a a values b k [] t (did_put a h) way

-- ---- answers of what was laid

pub laid_ok : {S B : Type 0} {q : Result S Halt} {x : S} {before now : Rest Text} {n n' : ℕ} {w o o' : Sink} {s a : Status B} → q ≡ Ok x → Laid q before n now n' w o o' s a → Along before n now n' w o' s a
laid_ok is h = at_ok is h.ok

pub laid_halts : {S T B : Type 0} {q : Result S Halt} {r : Result T Halt} {e : Halt} {before now : Rest Text} {n n' m : ℕ} {after' : T → Rest Text} {w o o' : Sink} {s a : Status B} → q ≡ Err e → r ≡ Err e → Laid q before n now n' w o o' s a → Went r before n after' m w o' s a
laid_halts {S} {T} {e = e} {before} {n = n} {m = m} {after'} {w} {o' = o'} {s} {a} was is h =
    subst (λ r. Went r before n after' m w o' s a) (sym is)
    (record { ok = tt; err = at_err was h.err; fault = same_fault S T e w.failed w.empty o'.failed o'.empty (subst (CountsTell w.failed w.empty o'.failed o'.empty) was h.fault) })

if_each : {T E P : Type 0} {Q : T → Type 0} (r : Result T E) → ((x : T) → P → Q x) → OnOk r P → IfOk r Q
if_each (Ok x) f h = f x h
if_each (Err e) f h = tt

pub laid_last : {T B : Type 0} {r : Result T Halt} {before now : Rest Text} {n n' : ℕ} {w o o' : Sink} {s a : Status B} (after' : T → Rest Text) → ((x : T) → now ≡ after' x) → Laid r before n now n' w o o' s a → Went r before n after' n' w o' s a
laid_last {r = r} after' is h = record { ok = if_each r (λ x. turns (is x)) h.ok; err = h.err; fault = h.fault }
