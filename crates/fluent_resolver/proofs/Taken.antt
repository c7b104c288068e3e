-- Frames that are taken, the innermost first.
use Rattle.std.proofs.Common.{◌≡◌, sym, ap, subst, ◌∙◌, ℕ, ◌+◌, ◌*◌, ◌<◌, List, [], ◌∷◌, ◌++◌, append-nil, append_assoc, length, length-append, arith, Option, Result, Err}
use Rattle.std.specs.Prelude.{reverse}
use Rattle.std.proofs.lemmas.Grind.{reverse_onto}
use Rattle.std.proofs.lemmas.List.{length-reverse}
use Rattle.fluent_ast.specs.Tree.{Text, Pattern}
use Rattle.fluent_semantics.specs.Ahead.{Rest, Values}
use Rattle.fluent_semantics.specs.Bundle.{Bundle}
use Rattle.fluent_semantics.specs.Value.{Value}
use Rattle.fluent_resolver_state.specs.Status.{Status}
use Rattle.fluent_values.specs.Sinks.{Sink}
use Rattle.fluent_values.specs.declared.output.Halt.{Halt}
use Rattle.fluent_values.specs.declared.output.Halt.TheVariants.{Memory}
use Rattle.fluent_resolver.specs.Frames.{Along, ArePlacedFrames, RanToEnd, before, frame, onto}
use Rattle.fluent_resolver.specs.Inside.Parts.{Following, View}
use Rattle.fluent_resolver.specs.declared.frame.Frame.{Frame}
use Rattle.fluent_resolver.proofs.Going.{turns, with_fewer}
use Rattle.fluent_resolver.proofs.Pushing.{length_pushed, onto_pushed, placed_pushed}

onto_turned : {C : Type 0} (content : C → Text) (b : Bundle Text) (ws fs : List (Frame C)) (k : Following) → onto content b (ws ++ reverse fs) k ≡ before content b fs (onto content b ws k)
onto_turned content b ws [] k = ap (λ l. onto content b l k) (append-nil ws)
onto_turned content b ws (f ∷ fs) k =
    ap (λ l. onto content b (ws ++ l) k) (reverse_onto fs f [])
    ∙ onto_pushed content b (ws ++ reverse fs) (ws ++ (reverse fs ++ f ∷ [])) f k (sym (append_assoc ws (reverse fs) (f ∷ [])))
    ∙ ap (λ k' given. frame content f given b k') (onto_turned content b ws fs k)

-- what was put off is ahead, and then what waits below it
pub onto_laid : {C : Type 0} (content : C → Text) (b : Bundle Text) (ws fs gs : List (Frame C)) (k : Following) → gs ≡ ws ++ reverse fs → onto content b gs k ≡ before content b fs (onto content b ws k)
onto_laid content b ws fs gs k is = ap (λ l. onto content b l k) is ∙ onto_turned content b ws fs k

pub length_laid : {A : Type 0} (ws fs gs : List A) → gs ≡ ws ++ reverse fs → length gs ≡ length ws + length fs
length_laid ws fs gs is = ap length is ∙ length-append ws (reverse fs) ∙ ap (λ n. length ws + n) (length-reverse fs)

placed_turned : {C : Type 0} (number : Text → Option ℕ) (table : List Pattern) (ws fs : List (Frame C)) → ArePlacedFrames number table ws → ArePlacedFrames number table fs → ArePlacedFrames number table (ws ++ reverse fs)
placed_turned number table ws [] h j = subst (ArePlacedFrames number table) (sym (append-nil ws)) h
placed_turned number table ws (f ∷ fs) h j =
    subst (λ l. ArePlacedFrames number table (ws ++ l)) (sym (reverse_onto fs f []))
    (placed_pushed number table (ws ++ reverse fs) (ws ++ (reverse fs ++ f ∷ [])) f (sym (append_assoc ws (reverse fs) (f ∷ []))) (placed_turned number table ws fs h j.1) j.0)

pub placed_laid : {C : Type 0} (number : Text → Option ℕ) (table : List Pattern) (ws fs gs : List (Frame C)) → gs ≡ ws ++ reverse fs → ArePlacedFrames number table ws → ArePlacedFrames number table fs → ArePlacedFrames number table gs
placed_laid number table ws fs gs is h j = subst (ArePlacedFrames number table) (sym is) (placed_turned number table ws fs h j)

-- the frame on top is taken
pub is_taken : {B C : Type 0} {first : Rest Text} {n : ℕ} {w w' : Sink} {s s' : Status B} (content : C → Text) (b : Bundle Text) (fs gs : List (Frame C)) (f : Frame C) (k : Following) (given : Option (Value Text)) (v : View) → gs ≡ fs ++ f ∷ [] → Along first n (onto content b gs k given v) (length gs) w w' s s' → Along first n (frame content f given b (onto content b fs k) v) (length fs) w w' s s'
is_taken content b fs gs f k given v is h =
    with_fewer (length fs) (omega (arith, length_pushed fs gs f is)) (turns (ap (λ m. m given v) (onto_pushed content b fs gs f k is)) h)

-- what was put off is laid on top
pub is_laid : {B C : Type 0} {first : Rest Text} {n : ℕ} {w w' : Sink} {s s' : Status B} (content : C → Text) (b : Bundle Text) (ws fs gs : List (Frame C)) (k : Following) (given : Option (Value Text)) (v : View) → gs ≡ ws ++ reverse fs → Along first n (before content b fs (onto content b ws k) given v) (length ws + length fs) w w' s s' → Along first n (onto content b gs k given v) (length gs) w w' s s'
is_laid content b ws fs gs k given v is h =
    with_fewer (length gs) (omega (arith, length_laid ws fs gs is)) (turns (ap (λ m. m given v) (sym (onto_laid content b ws fs gs k is))) h)

-- a frame is fewer
pub falls : {B C : Type 0} {now : Rest Text} {n' : ℕ} {w w' : Sink} {s s' : Status B} (content : C → Text) (b : Bundle Text) (fs gs : List (Frame C)) (f : Frame C) (k : Following) (given : Option (Value Text)) (v : View) → gs ≡ fs ++ f ∷ [] → Along (frame content f given b (onto content b fs k) v) (length fs) now n' w w' s s' → 4 * now.parts + n' < 4 * (onto content b gs k given v).parts + length gs
falls content b fs gs f k given v is h =
    omega (arith, h.fewer, length_pushed fs gs f is, ap (λ m. (m given v).parts) (onto_pushed content b fs gs f k is))

-- nothing was put off, and this is ahead
pub is_still : {B C : Type 0} {first : Rest Text} {n m : ℕ} {w w' : Sink} {s s' : Status B} (content : C → Text) (b : Bundle Text) (fs : List (Frame C)) (k : Following) (given : Option (Value Text)) (v : View) → fs ≡ [] → Along first n (k given v) m w w' s s' → Along first n (before content b fs k given v) (m + length fs) w w' s s'
is_still {m = m} content b fs k given v is h =
    let none : length fs ≡ 0 = ap length is in
    with_fewer (m + length fs) (omega (arith, none)) (turns (ap (λ l. before content b l k given v) (sym is)) h)

-- there was no memory
pub ends_lacks : {S T B : Type 0} {q : Result S Halt} {r : Result T Halt} {e : Halt} {before now : Rest Text} {n n' : ℕ} {w w' : Sink} {s s' : Status B} (values : Values Text) → q ≡ Err e → r ≡ Err e → e ≡ Memory → Along before n now n' w w' s s' → RanToEnd r before values w w' s s'
ends_lacks {T = T} {r = r} {before = before} {now} {w = w} {w'} {s} {s'} values was is same h =
    subst (λ r. RanToEnd {T = T} r before values w w' s s') (sym (is ∙ ap Err same))
    (record { done = h.done; happened = h.happened; prefix = record { rest = now.events; whole = h.events }; whole = tt; ends = tt; fault = h.still })

-- laid on nothing
pub first_laid : {A : Type 0} (ws none fs : List A) → none ≡ [] → ws ≡ none ++ reverse fs → ws ≡ [] ++ reverse fs
first_laid ws none fs is laid = laid ∙ ap (λ l. l ++ reverse fs) is
