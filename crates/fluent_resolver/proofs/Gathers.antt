-- Arguments that are gathered: the next begins, or none is left.
use Rattle.std.proofs.Common.{◌≡◌, refl, sym, ap, subst, ◌∙◌, ℕ, List, [], ◌∷◌, ◌++◌, append-nil, append_assoc, Option, Some, None, false}
use Rattle.fluent_ast.specs.References.{in_inline, in_named, in_positional}
use Rattle.fluent_ast.specs.Tree.{Text, Inline, Inlines, Nameds, argument, named_argument, no_inlines, no_nameds}
use Rattle.fluent_references.specs.CursorLaws.{prefix}
use Rattle.fluent_references.specs.Links.{IsBefore, Links}
use Rattle.fluent_semantics.specs.Ahead.{Rest, ahead, begins, comes}
use Rattle.fluent_semantics.specs.Arguments.{Map, set_all}
use Rattle.fluent_semantics.specs.Bundle.{Bundle}
use Rattle.fluent_semantics.specs.Value.{Value}
use Rattle.fluent_semantics.specs.Walk as walk
use Rattle.fluent_semantics.specs.Walk.{elements}
use Rattle.fluent_resolver_state.specs.Status.{Status}
use Rattle.fluent_values.specs.Sinks.{Sink}
use Rattle.fluent_resolver.specs.Frames.{Along, gathers, use_of}
use Rattle.fluent_resolver.specs.Inside.Held.{held}
use Rattle.fluent_resolver.specs.Inside.Parts as parts
use Rattle.fluent_resolver.specs.Inside.Parts.{Following, Held, Use, View, after_value, first_argument, gathering, next_argument, stepping, taken}
use Rattle.fluent_resolver.specs.declared.frame.Gathering.{Gathering}
use Rattle.fluent_resolver.proofs.Going.{starts, turns}

-- ---- none is left

all_taken : (made_of : Use) (values : List (Value Text)) (m : Map (Value Text)) (b : Bundle Text) (k : Following) (v : View) → gathering made_of (record { values = values; map = m; more = no_inlines; more_named = no_nameds }) b k v ≡ begins (made_of (values ++ []) m b k v)
unfolding elements
all_taken made_of values m b k v = refl

none_left : (made_of : Use) (ps : Inlines) (ns : Nameds) (values : List (Value Text)) (m : Map (Value Text)) (b : Bundle Text) (k : Following) (v : View) → first_argument ps ns ≡ None → gathering made_of (record { values = values; map = m; more = ps; more_named = ns }) b k v ≡ begins (made_of values m b k v)
none_left made_of no_inlines no_nameds values m b k v h = all_taken made_of values m b k v ∙ ap (λ vs. begins (made_of vs m b k v)) (append-nil values)
none_left made_of no_inlines (named_argument name x ns) values m b k v h = cc
none_left made_of (argument x xs) ns values m b k v h = cc

pub all_gathered : (made_of : Use) (h : Held) (b : Bundle Text) (k : Following) (v : View) → next_argument h ≡ None → gathering made_of h b k v ≡ begins (made_of h.values h.map b k v)
all_gathered made_of h b k v none = none_left made_of h.more h.more_named h.values h.map b k v none

-- ---- the next begins

first_next : (made_of : Use) (x : Inline) (xs : Inlines) (ns : Nameds) (values : List (Value Text)) (m : Map (Value Text)) (b : Bundle Text) (k : Following) (v : View) → begins (parts.resolved x b (λ given. taken made_of (record { values = values; map = m; more = argument x xs; more_named = ns }) given b k) v) ≡ gathering made_of (record { values = values; map = m; more = argument x xs; more_named = ns }) b k v
unfolding elements
first_next made_of x xs ns values m b k v = λ i.
    begins (walk.resolved (ahead Text) b (comes b) v.environment v.path x false (λ y c.
    begins (walk.positional (ahead Text) b (comes b) v.environment v.path xs false (λ ws d.
    begins (walk.named (ahead Text) b (comes b) v.environment v.path ns false (λ es e.
    made_of (append_assoc values (y ∷ []) ws i) (set_all es m) b k (record v { budget = e })) d)) c)) v.budget)

named_next : (made_of : Use) (name : Text) (x : Inline) (ns : Nameds) (values : List (Value Text)) (m : Map (Value Text)) (b : Bundle Text) (k : Following) (v : View) → begins (begins (parts.resolved x b (λ given. taken made_of (record { values = values; map = m; more = no_inlines; more_named = named_argument name x ns }) given b k) v)) ≡ gathering made_of (record { values = values; map = m; more = no_inlines; more_named = named_argument name x ns }) b k v
unfolding elements
named_next made_of name x ns values m b k v = refl

pub next_begins : {B : Type 0} {before : Rest Text} {n n' : ℕ} {w w' : Sink} {s a : Status B} (made_of : Use) (h : Held) (x : Inline) (b : Bundle Text) (k : Following) (v : View) → next_argument h ≡ Some x → Along before n (gathering made_of h b k v) n' w w' s a → Along before n (begins (parts.resolved x b (λ given. taken made_of h given b k) v)) n' w w' s a
next_begins {before = before} {n} {n'} {w} {w'} {s} {a} made_of h x b k v is way = by h.more h.more_named is way
  where
    by : (ps : Inlines) (ns : Nameds) → first_argument ps ns ≡ Some x → Along before n (gathering made_of (record { values = h.values; map = h.map; more = ps; more_named = ns }) b k v) n' w w' s a → Along before n (begins (parts.resolved x b (λ given. taken made_of (record { values = h.values; map = h.map; more = ps; more_named = ns }) given b k) v)) n' w w' s a
    by no_inlines no_nameds is way = cc
    by no_inlines (named_argument name y ns) is way =
        let same : y ≡ x = cc in
        turns (ap (λ z. begins (parts.resolved z b (λ given. taken made_of (record { values = h.values; map = h.map; more = no_inlines; more_named = named_argument name y ns }) given b k) v)) same) (starts (turns (sym (named_next made_of name y ns h.values h.map b k v)) way))
    by (argument y xs) ns is way =
        let same : y ≡ x = cc in
        turns (ap (λ z. begins (parts.resolved z b (λ given. taken made_of (record { values = h.values; map = h.map; more = argument y xs; more_named = ns }) given b k) v)) same) (turns (sym (first_next made_of y xs ns h.values h.map b k v)) way)

-- ---- it has its value

stepped : {B : Type 0} {before r : Rest Text} {n n' : ℕ} {w w' : Sink} {s a : Status B} (ps : Inlines) → Along before n (stepping ps r) n' w w' s a → Along before n r n' w w' s a
stepped no_inlines h = h
stepped (argument x xs) h = starts h

-- the next of a call has this value
pub gets_value : {C B : Type 0} {before : Rest Text} {n n' : ℕ} {w w' : Sink} {s a : Status B} (content : C → Text) (old new : Gathering C) (y : Value Text) (b : Bundle Text) (k : Following) (v : View) → new.purpose ≡ old.purpose → held content new ≡ after_value (held content old) y → Along before n (gathers content old (Some y) b k v) n' w w' s a → Along before n (gathers content new None b k v) n' w w' s a
gets_value content old new y b k v same is way =
    turns (ap (λ h. gathering (use_of old.purpose) h b k v) (sym is) ∙ ap (λ u. gathering (use_of u) (held content new) b k v) (sym same)) (stepped (held content old).more way)

-- ---- where its cursor stands

pub placed_next : (number : Text → Option ℕ) (ps : Inlines) (ns : Nameds) (x : Inline) (p : Links) → first_argument ps ns ≡ Some x → IsBefore number (in_positional ps ++ in_named ns) p → IsBefore number (in_inline x) p
placed_next number no_inlines no_nameds x p is h = cc
placed_next number no_inlines (named_argument name y ns) x p is h =
    let same : y ≡ x = cc in
    subst (λ z. IsBefore number (in_inline z) p) same (prefix number (in_inline y) (in_named ns) p h)
placed_next number (argument y xs) ns x p is h =
    let same : y ≡ x = cc in
    subst (λ z. IsBefore number (in_inline z) p) same (prefix number (in_inline y) (in_positional xs ++ in_named ns) p (subst (λ rs. IsBefore number rs p) (append_assoc (in_inline y) (in_positional xs) (in_named ns)) h))
