-- Cursors before parts.
use Rattle.std.proofs.Common.{[], ◌≡◌, ℕ, List, ◌∷◌, ◌++◌, sym, subst, Option, Result, Ok, IfOk}
use Rattle.fluent_ast.specs.References.{Reference}
use Rattle.fluent_ast.specs.Tree.{Text}
use Rattle.fluent_references.specs.Links.{IsBefore, past, next}
use Rattle.fluent_references.specs.CursorLaws.{back, prefix}
use Rattle.fluent_references.specs.Cursors.{seen}
use Rattle.fluent_references.specs.declared.cursor.Cursor.{Cursor}
use Rattle.fluent_resolver_state.specs.Status.{Status}

-- the same of references that are these
pub placed_as : (number : Text → Option ℕ) (rs rs' : List Reference) (p : Cursor) → rs ≡ rs' → IsBefore number rs (seen p) → IsBefore number rs' (seen p)
placed_as number rs rs' p is h = subst (λ rs. IsBefore number rs (seen p)) is h

-- a scope that kept what is stored has the same numbers
pub placed_still : {K : Type 0} (a b : Status K) (rs : List Reference) (p : Cursor) → b.stored ≡ a.stored → IsBefore a.stored.numbers rs (seen p) → IsBefore b.stored.numbers rs (seen p)
placed_still a b rs p kept h = subst (λ s. IsBefore s.numbers rs (seen p)) (sym kept) h

-- the first reference, and what stands after it
pub placed_first : (number : Text → Option ℕ) (all : List Reference) (r : Reference) (rs : List Reference) (p : Cursor) → all ≡ r ∷ rs → IsBefore number all (seen p) → IsBefore number (r ∷ []) (seen p)
placed_first number all r rs p is h = prefix number (r ∷ []) rs (seen p) (placed_as number all (r ∷ rs) p is h)

pub placed_after : (number : Text → Option ℕ) (all : List Reference) (r : Reference) (rs : List Reference) (p q : Cursor) → all ≡ r ∷ rs → seen q ≡ next (seen p) → IsBefore number all (seen p) → IsBefore number rs (seen q)
placed_after number all r rs p q is at h = subst (IsBefore number rs) (sym at) (back number (r ∷ []) rs (seen p) (placed_as number all (r ∷ rs) p is h))

-- the first of two parts, and the second
pub placed_prefix : (number : Text → Option ℕ) (all xs ys : List Reference) (p : Cursor) → all ≡ xs ++ ys → IsBefore number all (seen p) → IsBefore number xs (seen p)
placed_prefix number all xs ys p is h = prefix number xs ys (seen p) (placed_as number all (xs ++ ys) p is h)

pub placed_back : (number : Text → Option ℕ) (all xs ys : List Reference) (p q : Cursor) → all ≡ xs ++ ys → seen q ≡ past xs (seen p) → IsBefore number all (seen p) → IsBefore number ys (seen q)
placed_back number all xs ys p q is at h = subst (IsBefore number ys) (sym at) (back number xs ys (seen p) (placed_as number all (xs ++ ys) p is h))

-- of an answer that is Ok
pub ok_value : {T E : Type 0} (r : Result T E) (x : T) (P : T → Type 0) → r ≡ Ok x → IfOk r P → P x
ok_value r x P is h = subst (λ r. IfOk r P) is h
