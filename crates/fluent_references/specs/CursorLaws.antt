-- Cursors before references, and how they pass over parts.
use Rattle.std.specs.Prelude.{◌≡◌, ℕ, List, [], ◌∷◌, ◌++◌, Option, Some, IfSome, refl}
use Rattle.fluent_ast.specs.Tree.{Text}
use Rattle.fluent_ast.specs.References.{Reference}
use Rattle.fluent_references.specs.Links.{Links, next, past, id_of, IsBefore, KeepsNumbers}
use Rattle.fluent_references.specs.Cursors.{first_of}

-- a cursor before two parts is before the first
pub prefix : (number : Text → Option ℕ) (xs ys : List Reference) (p : Links) → IsBefore number (xs ++ ys) p → IsBefore number xs p
prefix number xs ys [] h = tt
prefix number [] ys (l ∷ ls) h = tt
prefix number (x ∷ xs) ys (l ∷ ls) h = (h.0, prefix number xs ys ls h.1)

-- and after the first it is before the second
pub back : (number : Text → Option ℕ) (xs ys : List Reference) (p : Links) → IsBefore number (xs ++ ys) p → IsBefore number ys (past xs p)
back number [] ys p h = h
back number (x ∷ xs) ys [] h = back number xs ys [] tt
back number (x ∷ xs) ys (l ∷ ls) h = back number xs ys ls h.1

-- two parts are passed over one by one
pub after_append : (xs ys : List Reference) (p : Links) → past (xs ++ ys) p ≡ past ys (past xs p)
after_append [] ys p = refl
after_append (x ∷ xs) ys p = after_append xs ys (next p)

-- where no links are left nothing is passed over
pub after_last : (rs : List Reference) → past rs [] ≡ []
after_last [] = refl
after_last (r ∷ rs) = after_last rs

-- the next number is that of the next reference
pub first_is : (number : Text → Option ℕ) (r : Reference) (rs : List Reference) (p : Links) → IsBefore number (r ∷ rs) p → IfSome (first_of p) (λ n. number (id_of r) ≡ Some n)
first_is number r rs [] h = tt
first_is number r rs (l ∷ ls) h = h.0

-- links stay right while ids keep their numbers
pub keeps_before : (number number' : Text → Option ℕ) → KeepsNumbers number number' → (rs : List Reference) (p : Links) → IsBefore number rs p → IsBefore number' rs p
keeps_before number number' kept rs [] h = tt
keeps_before number number' kept [] (l ∷ ls) h = tt
keeps_before number number' kept (r ∷ rs) (l ∷ ls) h = (kept (id_of r) l h.0, keeps_before number number' kept rs ls h.1)
