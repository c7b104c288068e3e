-- Patterns that references lead to.
use Rattle.std.proofs.Common.{◌≡◌, refl, sym, ap, ◌∙◌, ℕ, length, List, [], ◌∷◌, ◌++◌, Bool, true, false, is_none, Option, None, Some, Result, Ok, Err}
use Rattle.fluent_ast.specs.Fallback.{fallback, in_braces}
use Rattle.fluent_ast.specs.Tree.{Text, Inline, Pattern}
use Rattle.fluent_semantics.specs.Ahead.{ComesByItself, Rest, Next, Values, after, ahead, begins, comes}
use Rattle.fluent_semantics.specs.Bundle.{Bundle, Target, unknown, without_value, found}
use Rattle.fluent_semantics.specs.Errors.{Reference, cyclic, no_value, reference_of, resolver_error}
use Rattle.fluent_semantics.specs.Events.{entered}
use Rattle.fluent_semantics.specs.Meaning.{Budget}
use Rattle.fluent_semantics.specs.Walk as walk
use Rattle.fluent_semantics.specs.Walk.{Environment, elements, has_one, inner, is_on, local}
use Rattle.fluent_semantics.specs.Arguments.{Map}
use Rattle.fluent_semantics.specs.Value.{Value}
use Rattle.fluent_resolver_state.specs.Facts.Happening.{happened_as, with_none}
use Rattle.fluent_path.specs.Facts.{front_snoc}
use Rattle.fluent_resolver_state.specs.Happened.{Happened, lost_of}
use Rattle.fluent_path.specs.Contents.{front}
use Rattle.fluent_resolver_state.specs.Status.{Status}
use Rattle.fluent_resolver_state.specs.Steps.{Enters}
use Rattle.fluent_values.specs.Facts.Took.{appends_none, at_err, at_ok}
use Rattle.fluent_values.specs.Sinks.{Sink}
use Rattle.fluent_resolver.specs.Frames.{Along}
use Rattle.fluent_resolver.specs.Inside.Parts as parts
use Rattle.fluent_resolver.specs.Inside.Parts.{View, Following, goes_on, tells_and_puts, text_then}
use Rattle.fluent_resolver.proofs.Answered.{loses_is}
use Rattle.fluent_resolver.proofs.Going.{begun, passes, turns}

-- ---- a pattern that is entered, or is being written

inner_on : (path : List Pattern) (p : Pattern) → inner (path ++ p ∷ []) p ≡ path ++ p ∷ []
inner_on [] p = refl
inner_on (q ∷ path) p = refl

happened_put_on : {B E : Type 0} {r : Result (Unit {0}) E} {x : Unit {0}} {p : Pattern} {a b : Status B} (w : Sink) → r ≡ Ok x → Enters r p a b → Happened (entered (length (a.path ++ p ∷ [])) ∷ []) w w a b
happened_put_on {a = a} w is h = record {
  text = appends_none w.held;
  errors = h.elsewhere.errors ∙ sym (with_none a.errors);
  budget = h.elsewhere.budget;
  tally = at_ok is h.tally;
  beside = refl;
  borrowed = refl;
  stays = h.elsewhere.stays;
}

-- it was not entered
pub not_entered : {B E : Type 0} {r : Result (Unit {0}) E} {e : E} {p : Pattern} {before now : Rest Text} {n n' : ℕ} {w w1 : Sink} {s a b : Status B} → r ≡ Err e → Enters r p a b → Along before n now n' w w1 s a → Along before n now n' w w1 s b
not_entered {w1 = w1} is h way = passes (happened_as w1 h.elsewhere.errors h.elsewhere.budget (at_err is h.still) h.elsewhere.stays) way

-- its elements, by where they stand and by what is at hand after them
abbrev elements_in : (Bundle Text → Following) → Option Text → Values Text → Pattern → Bundle Text → Environment Text → Budget → List Pattern → List Pattern → Rest Text
elements_in k kept values p b env budget path outer =
    elements (ahead Text) b (comes b) env path (has_one p) p (is_none kept) (goes_on kept (λ kept d. k b None (record { kept = kept; budget = d; environment = env; path = outer; values = values }))) budget

-- what is ahead of it, where it is not on the path
comes_in : ComesByItself Text → (x : Inline) (p : Pattern) (k : Bundle Text → Following) (kept : Option Text) (values : Values Text) (b : Bundle Text) (env : Environment Text) (budget : Budget) (path : List Pattern) → is_on path p ≡ false
    → parts.go x p b (k b) (record { kept = kept; budget = budget; environment = env; path = path; values = values })
    ≡ after (entered (length (path ++ p ∷ [])) ∷ []) (begins (elements_in k kept values p b env budget (path ++ p ∷ []) path))
comes_in law x p k kept values b env budget path off =
    let next : Next Text Text = goes_on kept (λ kept d. k b None (record { kept = kept; budget = d; environment = env; path = path; values = values })) in
    ap (λ on. walk.go (ahead Text) b (comes b) env on env path x p (is_none kept) next budget) off
    ∙ law b env (path ++ p ∷ []) p (is_none kept) next budget
    ∙ ap (λ l. after (entered (length l) ∷ []) (begins (elements_in k kept values p b env budget l path))) (inner_on path p)

-- the same, said as a part
pub goes_visited : ComesByItself Text → (x : Inline) (p : Pattern) (b : Bundle Text) (k : Following) (v : View) → is_on v.path p ≡ false → parts.go x p b k v ≡ parts.visited p b k v
goes_visited law x p b k v off = comes_in law x p (λ m. k) v.kept v.values b v.environment v.budget v.path off

-- Once it is entered its elements are ahead, and then the path is as it was.
pub goes_into : {B E : Type 0} {r : Result (Unit {0}) E} {u : Unit {0}} {p : Pattern} {a b : Status B} (n : ℕ) (w : Sink) (x : Inline) (k : Bundle Text → Following) (kept : Option Text) (values : Values Text) → ComesByItself Text → is_on a.path p ≡ false → r ≡ Ok u → Enters r p a b
    → Along (parts.go x p a.bundle (k a.bundle) (record { kept = kept; budget = a.budget; environment = a.environment; path = a.path; values = values })) n
    (begins (parts.elements (has_one p) p b.bundle (λ given v. k b.bundle None (record v { path = front v.path })) (record { kept = kept; budget = b.budget; environment = b.environment; path = b.path; values = values }))) n w w a b
goes_into {p = p} {a} {b} n w x k kept values law off is h =
    let e = h.elsewhere in
    let on : b.path ≡ a.path ++ p ∷ [] = at_ok is h.entered in
    let same : elements_in k kept values p a.bundle a.environment a.budget (a.path ++ p ∷ []) a.path ≡ elements_in k kept values p b.bundle b.environment b.budget b.path (front b.path) =
    ap (λ x. elements_in k kept values p x a.environment a.budget (a.path ++ p ∷ []) a.path) (sym e.stays.bundle)
    ∙ ap (λ x. elements_in k kept values p b.bundle x a.budget (a.path ++ p ∷ []) a.path) (sym e.environment)
    ∙ ap (λ x. elements_in k kept values p b.bundle b.environment x (a.path ++ p ∷ []) a.path) (sym e.budget)
    ∙ ap (λ x. elements_in k kept values p b.bundle b.environment b.budget x a.path) (sym on)
    ∙ ap (λ x. elements_in k kept values p b.bundle b.environment b.budget b.path x) (sym (ap front on ∙ front_snoc a.path p)) in
    passes (happened_put_on w is h)
    (turns (comes_in law x p k kept values a.bundle a.environment a.budget a.path off ∙ ap (λ r. after (entered (length (a.path ++ p ∷ [])) ∷ []) (begins r)) same)
    (begun _ n w a))

-- it is being written
pub go_cyclic : (x : Inline) (p : Pattern) (b : Bundle Text) (k : Following) (v : View) → is_on v.path p ≡ true → parts.go x p b k v ≡ tells_and_puts (resolver_error cyclic ∷ []) (in_braces (fallback x)) b k v
go_cyclic x p b k v on = ap (λ o. walk.go (ahead Text) b (comes b) v.environment o v.environment v.path x p (is_none v.kept) (text_then k v) v.budget) on

-- ---- what a reference leads to

pub follow_unknown : (x : Inline) (id : Text) (t : Target) (b : Bundle Text) (k : Following) (v : View) → t ≡ unknown → parts.follow x id t b k v ≡ tells_and_puts (lost_of x) (in_braces (fallback x)) b k v
follow_unknown x id t b k v is = ap (λ t. parts.follow x id t b k v) is ∙ loses_is b v.environment (reference_of x) (in_braces (fallback x)) (is_none v.kept) (text_then k v) v.budget

pub follow_without : (x : Inline) (id : Text) (t : Target) (b : Bundle Text) (k : Following) (v : View) → t ≡ without_value → parts.follow x id t b k v ≡ tells_and_puts (resolver_error (no_value id) ∷ []) (in_braces id) b k v
follow_without x id t b k v is = ap (λ t. parts.follow x id t b k v) is

pub follow_found : (x : Inline) (id : Text) (t : Target) (p : Pattern) (b : Bundle Text) (k : Following) (v : View) → t ≡ found p → parts.follow x id t b k v ≡ parts.go x p b k v
follow_found x id t p b k v is = ap (λ t. parts.follow x id t b k v) is

-- it is in the environment that is said, whatever the one where the reference stands
lost_anywhere : (b : Bundle Text) (env env' : Environment Text) (r : Option Reference) (t : Text) (w : Bool) (next : Next Text Text) (n : Budget) → walk.loses_as (ahead Text) b (comes b) env r t w next n ≡ walk.loses_as (ahead Text) b (comes b) env' r t w next n
lost_anywhere b env env' None t w next n = refl
lost_anywhere b env env' (Some r) t w next n = refl

gone_anywhere : (b : Bundle Text) (env env' there : Environment Text) (path : List Pattern) (x : Inline) (p : Pattern) (w : Bool) (next : Next Text Text) (n : Budget) (on : Bool) → walk.go (ahead Text) b (comes b) env on there path x p w next n ≡ walk.go (ahead Text) b (comes b) env' on there path x p w next n
gone_anywhere b env env' there path x p w next n true = refl
gone_anywhere b env env' there path x p w next n false = refl

followed_anywhere : (b : Bundle Text) (env env' there : Environment Text) (path : List Pattern) (x : Inline) (id : Text) (t : Target) (w : Bool) (next : Next Text Text) (n : Budget) → walk.follow (ahead Text) b (comes b) env there path x id t w next n ≡ walk.follow (ahead Text) b (comes b) env' there path x id t w next n
followed_anywhere b env env' there path x id unknown w next n = lost_anywhere b env env' (reference_of x) (in_braces (fallback x)) w next n
followed_anywhere b env env' there path x id without_value w next n = refl
followed_anywhere b env env' there path x id (found p) w next n = gone_anywhere b env env' there path x p w next n (is_on path p)

-- a term's pattern, where variables are looked up among these, and after it as they were
pub enters_term : (x : Inline) (id : Text) (t : Target) (m : Map (Value Text)) (b : Bundle Text) (k : Following) (v : View)
    → parts.entering_term x id t m b k v ≡ parts.follow x id t b (λ given u. k None (record u { environment = v.environment })) (record v { environment = local m })
enters_term x id t m b k v = followed_anywhere b v.environment (local m) (local m) v.path x id t (is_none v.kept) (text_then k v) v.budget

-- variables are looked up elsewhere from now on
pub looks_in : {B : Type 0} {before now : Rest Text} {n n' : ℕ} {w w1 : Sink} {s a : Status B} (env : Environment Text) → Along before n now n' w w1 s a → Along before n now n' w w1 s (record a { environment = env })
looks_in {w1 = w1} env way = passes (happened_as w1 refl refl refl (record { bundle = refl; borrow = refl; list = refl; stored = refl; is_plain = refl })) way
