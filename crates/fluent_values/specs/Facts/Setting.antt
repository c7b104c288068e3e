-- Pairs that are set one after another.
use Rattle.std.proofs.Common.{◌≡◌, List, [], ◌∷◌, ◌++◌, map, refl, sym, subst, Option, Some, Result, Ok, Err, OnErr}
use Rattle.std.specs.Iterator.{Yields}
use Rattle.fluent_ast.specs.Tree.{Text}
use Rattle.fluent_semantics.specs.Arguments.{Map, set, set_all}
use Rattle.fluent_values.specs.Args.{CanGive}

module _ {A X : Type 0} (f : X → Text × A) where
  pub set_all_more : (xs : List X) (x : X) (m : Map A) → set_all (map f (xs ++ x ∷ [])) m ≡ set (f x).0 (f x).1 (set_all (map f xs) m)
  set_all_more [] x m = refl
  set_all_more (y ∷ ys) x m = set_all_more ys x (set (f y).0 (f y).1 m)

-- what was given after others was given after a first
pub first_given : {S A : Type 0} (steps : S → Option A → S → Type 0) (s t u : S) {o : Option A} {x : A} (xs : List A) → Yields steps s xs t → o ≡ Some x → steps t o u → CanGive steps s
first_given steps s t u {x = x} [] here is step = (x, u, subst (λ s. steps s (Some x) u) (sym here) (subst (λ o. steps t o u) is step))
first_given steps s t u (y ∷ ys) way is step = (y, way.0, way.1)

-- of any answer, what holds is so where it is no Ok
pub on_err : {A E P : Type 0} (r : Result A E) → P → OnErr r P
on_err (Ok x) h = tt
on_err (Err e) h = h
