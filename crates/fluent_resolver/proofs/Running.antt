-- The last frame is taken off, and the run ends.
use Rattle.std.proofs.Common.{◌≡◌, refl, sym, ap, subst, ◌∙◌, ℕ, List, [], ◌∷◌, ◌++◌, append-nil, Option, Result, Ok, Err}
use Rattle.fluent_ast.specs.Tree.{Text, Pattern}
use Rattle.fluent_semantics.specs.Ahead.{Rest, Values}
use Rattle.fluent_resolver_state.specs.Status.{Status}
use Rattle.fluent_values.specs.Sinks.{Sink}
use Rattle.fluent_values.specs.declared.output.Halt.{Halt}
use Rattle.fluent_resolver.specs.Frames.{Along, Went, RanToEnd, ArePlacedFrames, IsPlacedFrame}
use Rattle.fluent_resolver.specs.declared.frame.Frame.{Frame}
use Rattle.fluent_resolver.proofs.Going.{went_on, halts}

split : {C : Type 0} (number : Text → Option ℕ) (table : List Pattern) (fs : List (Frame C)) (f : Frame C) → ArePlacedFrames number table (fs ++ f ∷ []) → ArePlacedFrames number table fs × IsPlacedFrame number table f
split number table [] f h = (tt, h.0)
split number table (g ∷ fs) f h = let r = split number table fs f h.1 in ((h.0, r.0), r.1)

pub taken_off : {C : Type 0} (number : Text → Option ℕ) (table : List Pattern) (fs gs : List (Frame C)) (f : Frame C) → gs ≡ fs ++ f ∷ [] → ArePlacedFrames number table gs → ArePlacedFrames number table fs × IsPlacedFrame number table f
taken_off number table fs gs f is h = split number table fs f (subst (ArePlacedFrames number table) is h)

pub ends_err : {S T B : Type 0} {q : Result S Halt} {r : Result T Halt} {e : Halt} {before mid : Rest Text} {n n1 n2 : ℕ} {after' : S → Rest Text} {w w1 w2 : Sink} {s s1 s2 : Status B} (values : Values Text) → q ≡ Err e → r ≡ Err e → Along before n mid n1 w w1 s s1 → Went q mid n1 after' n2 w1 w2 s1 s2 → RanToEnd r before values w w2 s s2
ends_err {S} {T} {B} {q} {r} {e} {before} {mid} {n} {n1} {n2} {after'} {w} {w1} {w2} {s} {s1} {s2} values was is h j =
    let x = halts {T = T} {r = Err e} {m = n2} {after'' = λ y. before} was refl h j in
    subst (λ r. RanToEnd r before values w w2 s s2) (sym is) (record { done = x.err.done; happened = x.err.happened; prefix = x.err.prefix; whole = tt; ends = tt; fault = x.fault })

pub ends_ok : {B : Type 0} {before now : Rest Text} {n n' : ℕ} {w w' : Sink} {s s' : Status B} (values : Values Text) → now ≡ record { events = []; parts = 0; values = values } → Along before n now n' w w' s s' → RanToEnd {T = Unit {0}} (Ok tt) before values w w' s s'
ends_ok values is h =
    let all = ap (λ (r : Rest Text). h.done ++ r.events) (sym is) ∙ h.events in
    record { done = h.done; happened = h.happened; prefix = record { rest = []; whole = all }; whole = sym (append-nil h.done) ∙ all; ends = ap (λ (r : Rest Text). r.values) (sym is) ∙ h.values; fault = h.still }

-- the answer of a last call, behind which nothing is ahead
pub ends_last : {T B : Type 0} {before mid : Rest Text} {n n1 n2 : ℕ} {w w1 w2 : Sink} {s s1 s2 : Status B} (r : Result T Halt) (values : Values Text) → Along before n mid n1 w w1 s s1 → Went r mid n1 (λ x. record { events = []; parts = 0; values = values }) n2 w1 w2 s1 s2 → RanToEnd r before values w w2 s s2
ends_last {before = before} {n = n} {n2 = n2} {w = w} {w2 = w2} {s = s} {s2 = s2} r values h j = by r (went_on h j)
  where
    by : {T : Type 0} (r : Result T Halt) → Went r before n (λ x. record { events = []; parts = 0; values = values }) n2 w w2 s s2 → RanToEnd r before values w w2 s s2
    by (Ok x) g = record { done = g.ok.done; happened = g.ok.happened; prefix = record { rest = []; whole = g.ok.events }; whole = sym (append-nil g.ok.done) ∙ g.ok.events; ends = g.ok.values; fault = g.fault }
    by (Err e) g = record { done = g.err.done; happened = g.err.happened; prefix = g.err.prefix; whole = tt; ends = tt; fault = g.fault }
