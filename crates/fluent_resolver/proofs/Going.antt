-- How far a call went, step by step.
use Rattle.std.proofs.Common.{◌≡◌, refl, sym, ap, subst, ◌∙◌, ℕ, ◌+◌, ◌≤◌, List, [], ◌++◌, append_assoc, Result, Ok, Err, OnErr, IfOk, arith}
use Rattle.fluent_ast.specs.Tree.{Text}
use Rattle.fluent_semantics.specs.Ahead.{Rest, after, begins}
use Rattle.fluent_semantics.specs.Events.{Event}
use Rattle.fluent_resolver_state.specs.Facts.Happening.{happened_on, nothing_happened}
use Rattle.fluent_resolver_state.specs.Happened.{Happened}
use Rattle.fluent_resolver_state.specs.Status.{Status}
use Rattle.fluent_values.specs.Facts.Took.{at_err, faulted_on}
use Rattle.fluent_values.specs.Sinks.{Sink, CountsTell}
use Rattle.fluent_values.specs.declared.output.Halt.{Halt}
use Rattle.fluent_values.specs.declared.output.Halt.TheVariants as fault
use Rattle.fluent_values.specs.declared.output.Halt.TheVariants.{Memory}
use Rattle.fluent_resolver.specs.Frames.{Along, Stopped, Went}

-- ---- what is ahead

pub begun : {B : Type 0} (before : Rest Text) (n : ℕ) (w : Sink) (s : Status B) → Along before n before n w w s s
begun before n w s = record { done = []; happened = nothing_happened w s; events = refl; values = refl; fewer = omega arith; still = (refl, refl) }

-- the same, said otherwise
pub turns : {B : Type 0} {before now now' : Rest Text} {n n' : ℕ} {w w' : Sink} {s s' : Status B} → now ≡ now' → Along before n now n' w w' s s' → Along before n now' n' w w' s s'
turns {before = before} {n = n} {n'} {w} {w'} {s} {s'} is h = subst (λ r. Along before n r n' w w' s s') is h

-- a part begins
pub starts : {B : Type 0} {before now : Rest Text} {n n' : ℕ} {w w' : Sink} {s s' : Status B} → Along before n (begins now) n' w w' s s' → Along before n now n' w w' s s'
starts h = record { done = h.done; happened = h.happened; events = h.events; values = h.values; fewer = omega (arith, h.fewer); still = h.still }

-- a part begins, for which frames are put on
pub waits : {B : Type 0} {before now : Rest Text} {n n' : ℕ} {w w' : Sink} {s s' : Status B} (m : ℕ) → m ≤ n' + 4 → Along before n (begins now) n' w w' s s' → Along before n now m w w' s s'
waits m few h = record { done = h.done; happened = h.happened; events = h.events; values = h.values; fewer = omega (arith, h.fewer, few); still = h.still }

pub with_fewer : {B : Type 0} {before now : Rest Text} {n n' : ℕ} {w w' : Sink} {s s' : Status B} (m : ℕ) → m ≤ n' → Along before n now n' w w' s s' → Along before n now m w w' s s'
with_fewer m few h = record { done = h.done; happened = h.happened; events = h.events; values = h.values; fewer = omega (arith, h.fewer, few); still = h.still }

-- these events happened
pub happens : {B : Type 0} {before now : Rest Text} {n n' : ℕ} {w w1 w2 : Sink} {s s1 s2 : Status B} {es : List Event} → (w2.failed ≡ w1.failed) × (w2.empty ≡ w1.empty) → Happened es w1 w2 s1 s2 → Along before n (after es now) n' w w1 s s1 → Along before n now n' w w2 s s2
happens {now = now} {es = es} still j h = record {
  done = h.done ++ es;
  happened = happened_on h.happened j;
  events = append_assoc h.done es now.events ∙ h.events;
  values = h.values;
  fewer = h.fewer;
  still = (still.0 ∙ h.still.0, still.1 ∙ h.still.1);
}

-- of a state alone
pub passes : {B : Type 0} {before now : Rest Text} {n n' : ℕ} {w w1 : Sink} {s s1 s2 : Status B} {es : List Event} → Happened es w1 w1 s1 s2 → Along before n (after es now) n' w w1 s s1 → Along before n now n' w w1 s s2
passes j h = happens (refl, refl) j h

-- one way and then another
along_on : {B : Type 0} {before mid now : Rest Text} {n n1 n2 : ℕ} {w w1 w2 : Sink} {s s1 s2 : Status B} → Along before n mid n1 w w1 s s1 → Along mid n1 now n2 w1 w2 s1 s2 → Along before n now n2 w w2 s s2
along_on {now = now} h j = record {
  done = h.done ++ j.done;
  happened = happened_on h.happened j.happened;
  events = append_assoc h.done j.done now.events ∙ ap (λ y. h.done ++ y) j.events ∙ h.events;
  values = j.values ∙ h.values;
  fewer = omega (arith, h.fewer, j.fewer);
  still = (j.still.0 ∙ h.still.0, j.still.1 ∙ h.still.1);
}

-- ---- where a call stopped

pub stopped_on : {B : Type 0} {before mid : Rest Text} {n n1 : ℕ} {w w1 w2 : Sink} {s s1 s2 : Status B} → Along before n mid n1 w w1 s s1 → Stopped mid w1 w2 s1 s2 → Stopped before w w2 s s2
stopped_on h j = record {
  done = h.done ++ j.done;
  happened = happened_on h.happened j.happened;
  prefix = record { rest = j.prefix.rest; whole = append_assoc h.done j.done j.prefix.rest ∙ ap (λ y. h.done ++ y) j.prefix.whole ∙ h.events };
}

stops_here : {B : Type 0} {before now : Rest Text} {n n' : ℕ} {w w' : Sink} {s s' : Status B} → Along before n now n' w w' s s' → Stopped before w w' s s'
stops_here {now = now} h = record { done = h.done; happened = h.happened; prefix = record { rest = now.events; whole = h.events } }

-- counts that stood still, and then told an answer
pub faults_on : {T B : Type 0} {before now : Rest Text} {n n' : ℕ} {w w1 : Sink} {s s' : Status B} (r : Result T Halt) (w2 : Sink) → Along before n now n' w w1 s s' → CountsTell w1.failed w1.empty w2.failed w2.empty r → CountsTell w.failed w.empty w2.failed w2.empty r
faults_on {w = w} {w1} r w2 h f = faulted_on {S = Unit {0}} w.failed w.empty w1.failed w1.empty w2.failed w2.empty tt r h.still f

-- ---- answers

-- all was done
pub finishes : {T B : Type 0} {r : Result T Halt} {before now : Rest Text} {n n' : ℕ} {w w' : Sink} {s s' : Status B} (x : T) (after' : T → Rest Text) → r ≡ Ok x → now ≡ after' x → Along before n now n' w w' s s' → Went r before n after' n' w w' s s'
finishes {before = before} {n = n} {n'} {w} {w'} {s} {s'} x after' is same h =
    subst (λ r. Went r before n after' n' w w' s s') (sym is) (record { ok = turns same h; err = tt; fault = h.still })

-- there was no memory
pub lacks : {T B : Type 0} {r : Result T Halt} {before now : Rest Text} {n n' m : ℕ} {after' : T → Rest Text} {w w' : Sink} {s s' : Status B} → r ≡ Err Memory → Along before n now n' w w' s s' → Went r before n after' m w w' s s'
lacks {before = before} {n = n} {m = m} {after'} {w} {w'} {s} {s'} is h =
    subst (λ r. Went r before n after' m w w' s s') (sym is) (record { ok = tt; err = stops_here h; fault = h.still })

on_ok : {T E : Type 0} {P Q : T → Type 0} (r : Result T E) → ((x : T) → P x → Q x) → IfOk r P → IfOk r Q
on_ok (Ok x) f h = f x h
on_ok (Err e) f h = tt

on_err : {T E P Q : Type 0} (r : Result T E) → (P → Q) → OnErr r P → OnErr r Q
on_err (Ok x) f h = tt
on_err (Err e) f h = f h

-- the answer of the last call
pub went_on : {T B : Type 0} {r : Result T Halt} {before mid : Rest Text} {n n1 n2 : ℕ} {after' : T → Rest Text} {w w1 w2 : Sink} {s s1 s2 : Status B} → Along before n mid n1 w w1 s s1 → Went r mid n1 after' n2 w1 w2 s1 s2 → Went r before n after' n2 w w2 s s2
went_on {r = r} {w2 = w2} h j = record {
  ok = on_ok r (λ x. along_on h) j.ok;
  err = on_err r (stopped_on h) j.err;
  fault = faults_on r w2 h j.fault;
}

-- a call that was Ok
pub goes : {T B : Type 0} {r : Result T Halt} {x : T} {before mid : Rest Text} {n n1 n2 : ℕ} {after' : T → Rest Text} {w w1 w2 : Sink} {s s1 s2 : Status B} → r ≡ Ok x → Along before n mid n1 w w1 s s1 → Went r mid n1 after' n2 w1 w2 s1 s2 → Along before n (after' x) n2 w w2 s s2
goes {r = r} {mid = mid} {n1 = n1} {n2} {after'} {w1 = w1} {w2} {s1 = s1} {s2} is h j = along_on h (subst (λ r. IfOk r (λ x. Along mid n1 (after' x) n2 w1 w2 s1 s2)) is j.ok)

-- a fault tells the same of every answer
pub same_fault : (S T : Type 0) (e : Halt) (f g f' g' : ℕ) → CountsTell {T = S} f g f' g' (Err e) → CountsTell {T = T} f g f' g' (Err e)
same_fault S T fault.Memory f g f' g' h = h
same_fault S T fault.Writer f g f' g' h = h
same_fault S T fault.Zero f g f' g' h = h

-- a call that was not
pub halts : {S T B : Type 0} {q : Result S Halt} {r : Result T Halt} {e : Halt} {before mid : Rest Text} {n n1 n2 m : ℕ} {after' : S → Rest Text} {after'' : T → Rest Text} {w w1 w2 : Sink} {s s1 s2 : Status B} → q ≡ Err e → r ≡ Err e → Along before n mid n1 w w1 s s1 → Went q mid n1 after' n2 w1 w2 s1 s2 → Went r before n after'' m w w2 s s2
halts {S} {T} {q = q} {r} {e} {before} {mid} {n} {n1} {n2} {m} {after'} {after''} {w} {w1} {w2} {s} {s1} {s2} was is h j =
    subst (λ r. Went r before n after'' m w w2 s s2) (sym is)
    (record { ok = tt; err = stopped_on h (at_err was j.err); fault = same_fault S T e w.failed w.empty w2.failed w2.empty (subst (CountsTell w.failed w.empty w2.failed w2.empty) was (faults_on q w2 h j.fault)) })

-- a call was the fault that its caller answers
pub err_was : {S T : Type 0} {q : Result S Halt} {r : Result T Halt} {e f : Halt} → q ≡ Err e → r ≡ Err e → r ≡ Err f → q ≡ Err f
err_was {e = e} {f} was is h = let same : e ≡ f = by (sym is ∙ h) in was ∙ ap (λ x. Err x) same
  where
    by : {T : Type 0} {e f : Halt} → ◌≡◌ {A = Result T Halt} (Err e) (Err f) → e ≡ f
    by h = cc
