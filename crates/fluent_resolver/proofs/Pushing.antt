-- Frames that are put on.
use Rattle.std.proofs.Common.{◌≡◌, refl, sym, ap, subst, ◌∙◌, ℕ, ◌+◌, length, length-append, List, [], ◌∷◌, ◌++◌, Option, Result, Ok, Err, OnOk}
use Rattle.fluent_ast.specs.Tree.{Text, Pattern}
use Rattle.fluent_semantics.specs.Bundle.{Bundle}
use Rattle.fluent_resolver_state.specs.Status.{Status}
use Rattle.fluent_resolver.specs.Frames.{ArePlacedFrames, IsPlacedFrame, frame, onto}
use Rattle.fluent_resolver.specs.Inside.Parts.{Following}
use Rattle.fluent_resolver.specs.declared.frame.Frame.{Frame}

onto_one : {C : Type 0} (content : C → Text) (b : Bundle Text) (fs : List (Frame C)) (f : Frame C) (k : Following) → onto content b (fs ++ f ∷ []) k ≡ (λ given. frame content f given b (onto content b fs k))
onto_one content b [] f k = refl
onto_one content b (g ∷ fs) f k = onto_one content b fs f (λ given. frame content g given b k)

-- what the last of these frames waits for is ahead, then what those below it do
pub onto_pushed : {C : Type 0} (content : C → Text) (b : Bundle Text) (fs gs : List (Frame C)) (f : Frame C) (k : Following) → gs ≡ fs ++ f ∷ [] → onto content b gs k ≡ (λ given. frame content f given b (onto content b fs k))
onto_pushed content b fs gs f k is = ap (λ l. onto content b l k) is ∙ onto_one content b fs f k

pub length_pushed : {C : Type 0} (fs gs : List (Frame C)) (f : Frame C) → gs ≡ fs ++ f ∷ [] → length gs ≡ length fs + 1
length_pushed fs gs f is = ap length is ∙ length-append fs (f ∷ [])

placed_one : {C : Type 0} (number : Text → Option ℕ) (table : List Pattern) (fs : List (Frame C)) (f : Frame C) → ArePlacedFrames number table fs → IsPlacedFrame number table f → ArePlacedFrames number table (fs ++ f ∷ [])
placed_one number table [] f h j = (j, tt)
placed_one number table (g ∷ fs) f h j = (h.0, placed_one number table fs f h.1 j)

pub placed_pushed : {C : Type 0} (number : Text → Option ℕ) (table : List Pattern) (fs gs : List (Frame C)) (f : Frame C) → gs ≡ fs ++ f ∷ [] → ArePlacedFrames number table fs → IsPlacedFrame number table f → ArePlacedFrames number table gs
placed_pushed number table fs gs f is h j = subst (ArePlacedFrames number table) (sym is) (placed_one number table fs f h j)

pub if_ok : {T E P Q : Type 0} (r : Result T E) → (P → Q) → OnOk r P → OnOk r Q
if_ok (Ok x) f h = f h
if_ok (Err e) f h = tt

-- frames stay placed where what is stored is the same
pub ready_still : {C B : Type 0} (a b : Status B) (fs : List (Frame C)) → b.stored ≡ a.stored → ArePlacedFrames a.stored.numbers a.stored.table fs → ArePlacedFrames b.stored.numbers b.stored.table fs
ready_still a b fs kept h = subst (λ s. ArePlacedFrames s.numbers s.table fs) (sym kept) h

pub if_on : {T E P : Type 0} (r : Result T E) → P → OnOk r P
if_on (Ok x) h = h
if_on (Err e) h = tt
