-- What a state has at hand is another, and nothing happens.
use Rattle.std.proofs.Common.{◌≡◌, sym, ap, subst, ◌∙◌, ℕ, List, Bool, true, false}
use Rattle.fluent_ast.specs.Tree.{Text, Pattern}
use Rattle.fluent_semantics.specs.Ahead.{Rest}
use Rattle.fluent_semantics.specs.Walk.{Environment}
use Rattle.fluent_resolver_state.specs.Status.{Status}
use Rattle.fluent_resolver_state.specs.Steps.{Leaves}
use Rattle.fluent_values.specs.Sinks.{Sink}
use Rattle.fluent_resolver.specs.Frames.{Along, path_left}
use Rattle.fluent_resolver.proofs.Opening.{At}

-- what is ahead in a state whose environment and path are these
pub moves : {B : Type 0} (a b : Status B) (at : At) (env : Environment Text) (path : List Pattern) → b.bundle ≡ a.bundle → b.environment ≡ env → b.path ≡ path → b.budget ≡ a.budget → at a.bundle env path a.budget ≡ at b.bundle b.environment b.path b.budget
moves a b at env path bundle environment is budget =
    ap (λ x. at x env path a.budget) (sym bundle)
    ∙ ap (λ x. at b.bundle x path a.budget) (sym environment)
    ∙ ap (λ x. at b.bundle b.environment x a.budget) (sym is)
    ∙ ap (λ x. at b.bundle b.environment b.path x) (sym budget)

-- the path that is left
pub path_is : {B : Type 0} (put : Bool) {a b : Status B} → Leaves put a b → b.path ≡ path_left put a.path
path_is true h = h.left
path_is false h = h.kept

-- where texts go is as it was
pub elsewhere : {B : Type 0} {before now : Rest Text} {n n' : ℕ} {w o o' : Sink} {s a : Status B} → o' ≡ o → Along before n now n' w o s a → Along before n now n' w o' s a
elsewhere {before = before} {now} {n} {n'} {w} {s = s} {a} is h = subst (λ o. Along before n now n' w o s a) (sym is) h
