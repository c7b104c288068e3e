-- Links that are the numbers of references, each of one.
use Rattle.std.specs.Prelude.{◌≡◌, ℕ, List, [], ◌∷◌, map, Option, Some}
use Rattle.fluent_ast.specs.Tree.{Text}
use Rattle.fluent_ast.specs.References.{Reference}
use Rattle.fluent_references.specs.Links.{id_of, IsBefore, KeepsNumbers}

-- the links are the numbers of the ids, each of one, in order
abbrev pub AreNumbers : (Text → Option ℕ) → List Reference → List ℕ → Type 0
AreNumbers number rs ls = map (λ r. number (id_of r)) rs ≡ map Some ls

first_is : {A : Type 0} (x y : A) (xs ys : List A) → x ∷ xs ≡ y ∷ ys → x ≡ y
first_is x y xs ys h = cc

rest_is : {A : Type 0} (x y : A) (xs ys : List A) → x ∷ xs ≡ y ∷ ys → xs ≡ ys
rest_is x y xs ys h = cc

both_are : {A : Type 0} (x y : A) (xs ys : List A) → x ≡ y → xs ≡ ys → x ∷ xs ≡ y ∷ ys
both_are x y xs ys h k = cc

-- a walk can start before them
pub are_links : (number : Text → Option ℕ) (rs : List Reference) (ls : List ℕ) → AreNumbers number rs ls → IsBefore number rs ls
are_links number rs [] h = tt
are_links number [] (l ∷ ls) h = tt
are_links number (r ∷ rs) (l ∷ ls) h = (first_is (number (id_of r)) (Some l) (map (λ r. number (id_of r)) rs) (map Some ls) h, are_links number rs ls (rest_is (number (id_of r)) (Some l) (map (λ r. number (id_of r)) rs) (map Some ls) h))

-- they stay right while ids keep their numbers
pub keeps_numbers : (number number' : Text → Option ℕ) → KeepsNumbers number number' → (rs : List Reference) (ls : List ℕ) → AreNumbers number rs ls → AreNumbers number' rs ls
keeps_numbers number number' kept [] ls h = h
keeps_numbers number number' kept (r ∷ rs) [] h = absurd cc
keeps_numbers number number' kept (r ∷ rs) (l ∷ ls) h =
    both_are (number' (id_of r)) (Some l) (map (λ r. number' (id_of r)) rs) (map Some ls)
    (kept (id_of r) l (first_is (number (id_of r)) (Some l) (map (λ r. number (id_of r)) rs) (map Some ls) h))
    (keeps_numbers number number' kept rs ls (rest_is (number (id_of r)) (Some l) (map (λ r. number (id_of r)) rs) (map Some ls) h))
