-- Work that waits for what was put off.
use Rattle.std.proofs.Common.{◌≡◌, refl, sym, ap, subst, ◌∙◌, ℕ, zero, suc, ◌+◌, ◌≤◌, List, [], ◌∷◌, ◌++◌, length, arith, Option, Result, Ok, Err, OnOk, IfErr, IfOk}
use Rattle.fluent_ast.specs.Tree.{Text, Pattern}
use Rattle.fluent_semantics.specs.Ahead.{Rest}
use Rattle.fluent_semantics.specs.Bundle.{Bundle}
use Rattle.fluent_semantics.specs.Value.{Value}
use Rattle.fluent_resolver_state.specs.Status.{Status}
use Rattle.fluent_values.specs.Sinks.{Sink}
use Rattle.fluent_values.specs.declared.output.Halt.{Halt}
use Rattle.fluent_values.specs.declared.output.Halt.TheVariants.{Memory}
use Rattle.fluent_resolver.specs.Frames.{Along, ArePlacedFrames, IsPlacedFrame, Went, before, frame, paid_within}
use Rattle.fluent_resolver.specs.Inside.Parts.{Following, View}
use Rattle.fluent_resolver.specs.declared.frame.Frame.{Frame}
use Rattle.fluent_resolver.proofs.Going.{finishes, lacks, turns, with_fewer}
use Rattle.fluent_resolver.proofs.Pushing.{length_pushed, placed_pushed}

before_one : {C : Type 0} (content : C → Text) (b : Bundle Text) (fs : List (Frame C)) (f : Frame C) (k : Following) → before content b (fs ++ f ∷ []) k ≡ before content b fs (λ given. frame content f given b k)
before_one content b [] f k = refl
before_one content b (g ∷ fs) f k = ap (λ k' given. frame content g given b k') (before_one content b fs f k)

-- what waits last is ahead after all that was put off
pub before_pushed : {C : Type 0} (content : C → Text) (b : Bundle Text) (fs gs : List (Frame C)) (f : Frame C) (k : Following) → gs ≡ fs ++ f ∷ [] → before content b gs k ≡ before content b fs (λ given. frame content f given b k)
before_pushed content b fs gs f k is = ap (λ l. before content b l k) is ∙ before_one content b fs f k

-- nothing was put off
pub before_none : {C : Type 0} (content : C → Text) (b : Bundle Text) (fs : List (Frame C)) (k : Following) → fs ≡ [] → before content b fs k ≡ k
before_none content b fs k is = ap (λ l. before content b l k) is

length_none : {A : Type 0} (xs : List A) → xs ≡ [] → length xs ≡ 0
length_none xs is = ap length is

-- a frame is paid for, whether or not a level is left
pub pays : {B : Type 0} {before now : Rest Text} {n m : ℕ} {w w' : Sink} {s s' : Status B} (levels : ℕ) → Along before n now (suc m) w w' s s' → Along before n now (paid_within levels m) w w' s s'
pays zero h = h
pays {m = m} (suc l) h = with_fewer m (omega arith) h

-- all was done: nothing was put off, and this is ahead
pub is_done : {B C : Type 0} {first : Rest Text} {n m : ℕ} {w w' : Sink} {s s' : Status B} (content : C → Text) (b : Bundle Text) (fs : List (Frame C)) (k : Following) (given : Option (Value Text)) (v : View) → fs ≡ [] → Along first n (before content b fs k given v) (m + length fs) w w' s s' → Along first n (k given v) m w w' s s'
is_done {m = m} content b fs k given v is h = with_fewer m (omega (arith, length_none fs is)) (turns (ap (λ k'. k' given v) (before_none content b fs k is)) h)

-- what waits was put behind it, for which a frame was paid
pub is_put : {B C : Type 0} {first : Rest Text} {n : ℕ} {w w' : Sink} {s s' : Status B} (m : ℕ) (content : C → Text) (b : Bundle Text) (fs gs : List (Frame C)) (f : Frame C) (k : Following) (given : Option (Value Text)) (v : View) → gs ≡ fs ++ f ∷ [] → Along first n (before content b fs (λ x. frame content f x b k) given v) (suc m + length fs) w w' s s' → Along first n (before content b gs k given v) (m + length gs) w w' s s'
is_put m content b fs gs f k given v is h =
    with_fewer (m + length gs) (omega (arith, length_pushed fs gs f is)) (turns (ap (λ k'. k' given v) (sym (before_pushed content b fs gs f k is))) h)

-- ---- answers

each_ok : {T E : Type 0} {P Q : T → Type 0} (r : Result T E) → ((x : T) → P x → Q x) → IfOk r P → IfOk r Q
each_ok (Ok x) f h = f x h
each_ok (Err e) f h = tt

-- what is ahead after an answer, said otherwise
pub turns_answer : {T B : Type 0} {r : Result T Halt} {first : Rest Text} {n m m' : ℕ} {after' after'' : T → Rest Text} {w w' : Sink} {s s' : Status B} → ((x : T) → after' x ≡ after'' x) → m' ≤ m → Went r first n after' m w w' s s' → Went r first n after'' m' w w' s s'
turns_answer {r = r} {m' = m'} same few h = record { ok = each_ok r (λ x j. with_fewer m' few (turns (same x) j)) h.ok; err = h.err; fault = h.fault }

-- the answer of the last call, where nothing waits
pub none_waits : {T B C : Type 0} {r : Result T Halt} {first : Rest Text} {n m : ℕ} {w w' : Sink} {s s' : Status B} (content : C → Text) (b : Bundle Text) (fs : List (Frame C)) (k : Following) (given : T → Option (Value Text)) (v : View) → fs ≡ [] → Went r first n (λ x. k (given x) v) m w w' s s' → Went r first n (λ x. before content b fs k (given x) v) (m + length fs) w w' s s'
none_waits content b fs k given v is h = turns_answer (λ x. ap (λ k'. k' (given x) v) (sym (before_none content b fs k is))) (omega (arith, length_none fs is)) h

-- all was done, and nothing waits
pub all_done : {T B C : Type 0} {r : Result T Halt} {x : T} {first : Rest Text} {n m : ℕ} {w w' : Sink} {s s' : Status B} (content : C → Text) (b : Bundle Text) (fs : List (Frame C)) (k : Following) (given : T → Option (Value Text)) (v : View) → r ≡ Ok x → fs ≡ [] → Along first n (k (given x) v) m w w' s s' → Went r first n (λ x. before content b fs k (given x) v) (m + length fs) w w' s s'
all_done {x = x} content b fs k given v is none h = none_waits content b fs k given v none (finishes x (λ x. k (given x) v) is refl h)

-- the last answer is that of work that was put behind what was put off
pub put_last : {B C : Type 0} {first : Rest Text} {n : ℕ} {w w' : Sink} {s s' : Status B} (m : ℕ) (content : C → Text) (b : Bundle Text) (fs gs : List (Frame C)) (f : Frame C) (k : Following) (given : Option (Value Text)) (v v' : View) (r : Result (Unit {0}) Halt) → v ≡ v' → IfErr r (λ e. e ≡ Memory) → OnOk r (gs ≡ fs ++ f ∷ []) → Along first n (before content b fs (λ x. frame content f x b k) given v) (suc m + length fs) w w' s s' → Went r first n (λ x. before content b gs k given v') (m + length gs) w w' s s'
put_last m content b fs gs f k given v v' (Ok x) same e is h = finishes x _ refl refl (turns (ap (before content b gs k given) same) (is_put m content b fs gs f k given v is h))
put_last m content b fs gs f k given v v' (Err e) same none is h = lacks (ap Err none) h

pub placed_none : {C : Type 0} (number : Text → Option ℕ) (table : List Pattern) (fs : List (Frame C)) → fs ≡ [] → ArePlacedFrames number table fs
placed_none number table fs is = subst (ArePlacedFrames number table) (sym is) tt

-- the last answer, for which what waits stands right
pub placed_last : {C : Type 0} (number : Text → Option ℕ) (table : List Pattern) (fs gs : List (Frame C)) (f : Frame C) (r : Result (Unit {0}) Halt) → OnOk r (gs ≡ fs ++ f ∷ []) → ArePlacedFrames number table fs → IsPlacedFrame number table f → OnOk r (ArePlacedFrames number table gs)
placed_last number table fs gs f (Ok x) is h j = placed_pushed number table fs gs f is h j
placed_last number table fs gs f (Err e) is h j = tt
