-- Term references, by their arguments.
use Rattle.std.proofs.Common.{◌≡◌, refl, ap, ◌∙◌, ℕ, length, List, [], ◌∷◌, map, Bool, true, false, ◌&&◌, nat_eq, arith}
use Rattle.std.proofs.lemmas.Bool.{eqb-true}
use Rattle.fluent_ast.specs.Tree.{Text, Inline, string, number, function, message, term, variable, nested, Pattern, no_call, call, Arguments, arguments, no_inlines, inlines_of, Nameds, nameds_of}
use Rattle.fluent_ast.specs.View.{inline_view, named_view}
use Rattle.fluent_ast.specs.declared.ast.InlineExpression.{InlineExpression}
use Rattle.fluent_ast.specs.declared.ast.NamedArgument.{NamedArgument}
use Rattle.fluent_semantics.specs.Ahead.{Rest, Next, ahead, begins, comes}
use Rattle.fluent_semantics.specs.Arguments.{set_all}
use Rattle.fluent_semantics.specs.Bundle.{Bundle, Target}
use Rattle.fluent_semantics.specs.Meaning.{Budget}
use Rattle.fluent_semantics.specs.Value.{Value}
use Rattle.fluent_semantics.specs.Walk as walk
use Rattle.fluent_semantics.specs.Walk.{Environment, elements}
use Rattle.fluent_resolver_state.specs.Facts.Views.{view_named}
use Rattle.fluent_resolver_state.specs.Locals.{are_literals, is_literal, literal_value, literal_values}
use Rattle.fluent_resolver_state.specs.Status.{Status}
use Rattle.fluent_values.specs.Sinks.{Sink}
use Rattle.fluent_resolver.specs.Frames.{Along}
use Rattle.fluent_resolver.specs.Inside.Parts as parts
use Rattle.fluent_resolver.specs.Inside.Parts.{View, Following}
use Rattle.fluent_resolver.proofs.Going.{starts, turns}

pub term_alone : (x : Inline) (id : Text) (t : Target) (b : Bundle Text) (k : Following) (v : View) → parts.term x id t no_call b k v ≡ begins (parts.entering_term x id t [] b k v)
unfolding elements
term_alone x id t b k v = refl

pub term_called : (x : Inline) (id : Text) (t : Target) (a : Arguments) (b : Bundle Text) (k : Following) (v : View) → parts.term x id t (call a) b k v ≡ begins (parts.calls (parts.in_term x id t) a b k v)
unfolding elements
term_called x id t a b k v = refl

-- ---- literals alone

pub term_named : (x : Inline) (id : Text) (t : Target) (ns : Nameds) (b : Bundle Text) (k : Following) (v : View) → parts.term x id t (call (arguments no_inlines ns)) b k v
    ≡ begins (begins (begins (begins (walk.named (ahead Text) b (comes b) v.environment v.path ns false (λ es d. parts.entering_term x id t (set_all es []) b k (record v { budget = d })) v.budget))))
unfolding elements
term_named x id t ns b k v = refl

resolved_literal : (b : Bundle Text) (env : Environment Text) (path : List Pattern) (y : Inline) (next : Next Text (Value Text)) (n : Budget) → is_literal y ≡ true → walk.resolved (ahead Text) b (comes b) env path y false next n ≡ next (literal_value y) n
unfolding elements
resolved_literal b env path (string t) next n h = refl
resolved_literal b env path (number t) next n h = refl
resolved_literal b env path (function f a) next n h = cc
resolved_literal b env path (message m a) next n h = cc
resolved_literal b env path (term t a c) next n h = cc
resolved_literal b env path (variable x) next n h = cc
resolved_literal b env path (nested e) next n h = cc

pub both : (x y : Bool) → (x && y) ≡ true → (x ≡ true) × (y ≡ true)
both true y h = (refl, h)
both false y h = cc

none_if : {X : Type 0} (xs : List X) → nat_eq (length xs) 0 ≡ true → xs ≡ []
none_if [] h = refl
none_if (x ∷ xs) h = let none : length (x ∷ xs) ≡ 0 = eqb-true (length (x ∷ xs)) 0 h in absurd (omega (arith, none))

pub named_none : (b : Bundle Text) (env : Environment Text) (path : List Pattern) (next : Next Text (List (Text × Value Text))) (n : Budget) → walk.named (ahead Text) b (comes b) env path (nameds_of []) false next n ≡ next [] n
unfolding elements
named_none b env path next n = refl

pub named_more : (b : Bundle Text) (env : Environment Text) (path : List Pattern) (q : Text × Inline) (qs : List (Text × Inline)) (next : Next Text (List (Text × Value Text))) (n : Budget)
    → walk.named (ahead Text) b (comes b) env path (nameds_of (q ∷ qs)) false next n
    ≡ begins (walk.resolved (ahead Text) b (comes b) env path q.1 false (λ y c. begins (walk.named (ahead Text) b (comes b) env path (nameds_of qs) false (λ m d. next ((q.0, y) ∷ m) d) c)) n)
unfolding elements
named_more b env path q qs next n = refl

-- their values are at hand, and no part of them is ahead
named_literals : {B : Type 0} {before : Rest Text} {n n' : ℕ} {w w' : Sink} {s s' : Status B} (b : Bundle Text) (env : Environment Text) (path : List Pattern) (xs : List NamedArgument) (next : Next Text (List (Text × Value Text))) (d : Budget) → are_literals xs ≡ true
    → Along before n (begins (walk.named (ahead Text) b (comes b) env path (nameds_of (map named_view xs)) false next d)) n' w w' s s'
    → Along before n (begins (next (literal_values xs) d)) n' w w' s s'
named_literals b env path [] next d h way = turns (ap begins (named_none b env path next d)) way
named_literals b env path (x ∷ xs) next d h way =
    let y = inline_view x.value in
    let name = x.name.name.now in
    let each = both (is_literal y) (are_literals xs) h in
    let rest : Next Text (Value Text) = λ z c. begins (walk.named (ahead Text) b (comes b) env path (nameds_of (map named_view xs)) false (λ m d. next ((name, z) ∷ m) d) c) in
    named_literals b env path xs (λ m d. next ((name, literal_value y) ∷ m) d) d each.1
    (starts (starts (turns (
    ap (λ q. begins (walk.named (ahead Text) b (comes b) env path (nameds_of (q ∷ map named_view xs)) false next d)) (view_named x)
    ∙ ap begins (named_more b env path (name, y) (map named_view xs) next d)
    ∙ ap (λ r. begins (begins r)) (resolved_literal b env path y rest d each.0)
    ) way)))

pub term_literals : {B : Type 0} {before : Rest Text} {n n' : ℕ} {w w' : Sink} {s s' : Status B} (x : Inline) (id : Text) (t : Target) (ps : List InlineExpression) (xs : List NamedArgument) (b : Bundle Text) (k : Following) (v : View) → (nat_eq (length ps) 0 && are_literals xs) ≡ true
    → Along before n (parts.term x id t (call (arguments (inlines_of (map inline_view ps)) (nameds_of (map named_view xs)))) b k v) n' w w' s s'
    → Along before n (begins (parts.entering_term x id t (set_all (literal_values xs) []) b k v)) n' w w' s s'
term_literals x id t ps xs b k v h way =
    let each = both (nat_eq (length ps) 0) (are_literals xs) h in
    named_literals b v.environment v.path xs (λ es d. parts.entering_term x id t (set_all es []) b k (record v { budget = d })) v.budget each.1
    (starts (starts (starts (turns (
    ap (λ l. parts.term x id t (call (arguments (inlines_of (map inline_view l)) (nameds_of (map named_view xs)))) b k v) (none_if ps each.0)
    ∙ term_named x id t (nameds_of (map named_view xs)) b k v) way))))
