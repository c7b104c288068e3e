-- A placeable that is opened, or that the limit stops.
use Rattle.std.proofs.Common.{◌≡◌, refl, sym, ap, ◌∙◌, List, [], ◌∷◌, ◌++◌, append_assoc, zero, suc, Bool, true, false, is_none, Option, Some, None}
use Rattle.fluent_ast.specs.Tree.{Text, Pattern, Expression}
use Rattle.fluent_ast.specs.Fallback.{fallback_of}
use Rattle.fluent_semantics.specs.Ahead.{Rest, after, ahead, begins, comes, opens_ahead, put}
use Rattle.fluent_semantics.specs.Bundle.{Bundle}
use Rattle.fluent_semantics.specs.Errors.{resolver_error, too_many_placeables}
use Rattle.fluent_semantics.specs.Events.{told, opened, reached_limit, less_one}
use Rattle.fluent_semantics.specs.Meaning.{Budget, left, limit_reached, ending, first_mark, last_mark}
use Rattle.fluent_semantics.specs.Walk as walk
use Rattle.fluent_semantics.specs.Walk.{Environment, elements, is_marked}
use Rattle.fluent_resolver_state.specs.Status.{Status}
use Rattle.fluent_resolver_state.specs.Steps.{TakesOne, can_open}
use Rattle.fluent_resolver.specs.Inside.Parts as parts
use Rattle.fluent_resolver.specs.Inside.Parts.{View, Following, text_then}
use Rattle.fluent_resolver.proofs.Telling.{puts_nothing}

-- its first mark, its expression and its end, one after the other
abbrev pub inside : Expression → Bool → Bundle Text → Following → View → Budget → Rest Text
inside e marked b k v n = text_then (λ given u. parts.expression e b (λ given x. parts.closing e marked b k x) u) v (first_mark marked) n

in_turn : (e : Expression) (marked : Bool) (b : Bundle Text) (k : Following) (v : View) (kept : Option Text) (n : Budget)
    → put (is_none kept) (first_mark marked) (λ u. walk.expression (ahead Text) b (comes b) v.environment v.path e (is_none kept) (λ t. put (is_none kept) t (λ y c. put (is_none kept) (ending (fallback_of e) c ++ last_mark marked) (λ x. text_then k (record v { kept = kept }) (u ++ (y ++ x))) c))) n
    ≡ inside e marked b k (record v { kept = kept }) n
in_turn e marked b k v None n = refl
in_turn e marked b k v (Some own) n =
    ap (λ next. walk.expression (ahead Text) b (comes b) v.environment v.path e false next n)
    (λ i t c. k None (record v { kept = Some (joined t (ending (fallback_of e) c ++ last_mark marked) i); budget = c }))
  where
    joined : (t x : Text) → own ++ (first_mark marked ++ (t ++ x)) ≡ ((own ++ first_mark marked) ++ t) ++ x
    joined t x = sym (append_assoc own (first_mark marked) (t ++ x)) ∙ sym (append_assoc (own ++ first_mark marked) t x)

opens_if : (e : Expression) (marked : Bool) (b : Bundle Text) (k : Following) (v : View) (kept : Option Text) (n : Budget) → can_open n ≡ true
    → opens_ahead marked (fallback_of e) (walk.expression (ahead Text) b (comes b) v.environment v.path e) (is_none kept) (text_then k (record v { kept = kept })) n
    ≡ after (opened ∷ []) (begins (inside e marked b k (record v { kept = kept }) (less_one n)))
opens_if e marked b k v kept (left zero) h = cc
opens_if e marked b k v kept (left (suc n)) h = ap (λ r. after (opened ∷ []) (begins r)) (in_turn e marked b k v kept (left n))
opens_if e marked b k v kept limit_reached h = cc

-- what is ahead where it is opened
pub opens_part : (one : Bool) (e : Expression) (marked : Bool) (b : Bundle Text) (k : Following) (v : View) → marked ≡ is_marked b.isolates one e → can_open v.budget ≡ true
    → parts.part one e b k v ≡ after (opened ∷ []) (begins (inside e marked b k v (less_one v.budget)))
unfolding elements
opens_part one e marked b k v is h =
    ap (λ m. opens_ahead m (fallback_of e) (walk.expression (ahead Text) b (comes b) v.environment v.path e) (is_none v.kept) (text_then k v) v.budget) (sym is)
    ∙ opens_if e marked b k v v.kept v.budget h

stops_if : (e : Expression) (marked : Bool) (b : Bundle Text) (k : Following) (v : View) (n : Budget) → can_open n ≡ false → (n ≡ limit_reached → ⊥)
    → opens_ahead marked (fallback_of e) (walk.expression (ahead Text) b (comes b) v.environment v.path e) (is_none v.kept) (text_then k v) n
    ≡ after (reached_limit ∷ []) (after (told (resolver_error too_many_placeables) ∷ []) (k None (record v { budget = limit_reached })))
stops_if e marked b k v (left zero) h some = ap (after (reached_limit ∷ told (resolver_error too_many_placeables) ∷ [])) (puts_nothing k (record v { budget = limit_reached }))
stops_if e marked b k v (left (suc n)) h some = cc
stops_if e marked b k v limit_reached h some = absurd (some refl)

-- and where it isn't
pub stops_part : (one : Bool) (e : Expression) (b : Bundle Text) (k : Following) (v : View) → can_open v.budget ≡ false → (v.budget ≡ limit_reached → ⊥)
    → parts.part one e b k v ≡ after (reached_limit ∷ []) (after (told (resolver_error too_many_placeables) ∷ []) (k None (record v { budget = limit_reached })))
unfolding elements
stops_part one e b k v h some = stops_if e (is_marked b.isolates one e) b k v v.budget h some

-- what is ahead, by a state
abbrev pub At : Type 0
At = Bundle Text → Environment Text → List Pattern → Budget → Rest Text

-- what is ahead in a state, where one was taken from the budget, or none was left
pub taken_same : {B : Type 0} {r : Bool} {a b : Status B} (at : At) (n : Budget) → b.budget ≡ n → TakesOne r a b → at a.bundle a.environment a.path n ≡ at b.bundle b.environment b.path b.budget
taken_same {a = a} {b} at n is h =
    ap (λ x. at x a.environment a.path n) (sym h.stays.bundle)
    ∙ ap (λ x. at b.bundle x a.path n) (sym h.environment)
    ∙ ap (λ x. at b.bundle b.environment x n) (sym h.path)
    ∙ ap (λ x. at b.bundle b.environment b.path x) (sym is)
