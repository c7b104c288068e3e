-- What holds of all elements so far.
use Rattle.std.proofs.Common.{◌≡◌, ◌∙◌, ℕ, ◌+◌, ◌<◌, ◌≤◌, true, false, IsTrue, List, [], ◌∷◌, ◌++◌, length, get_or, map, take, refl, sym, ap, subst}
use Rattle.std.specs.List.{AllByRecursion}
use Rattle.std.proofs.lemmas.List.{map-append, take_all, take_more}

all_and : {B : Type 0} (P : B → Type 0) (ys : List B) (y : B) → AllByRecursion P ys → P y → AllByRecursion P (ys ++ y ∷ [])
all_and P [] y h p = (p, tt)
all_and P (z ∷ zs) y h p = (h.0, all_and P zs y h.1 p)

pub taken : {A B : Type 0} (f : A → B) (xs : List A) (i : ℕ) (x : A) → i < length xs → x ≡ get_or xs i x → map f (take (i + 1) xs) ≡ map f (take i xs) ++ f x ∷ []
taken f xs i x h is = ap (map f) (take_more xs i x h) ∙ (map-append f (take i xs) (get_or xs i x ∷ []) ∙ ap (λ u. map f (take i xs) ++ f u ∷ []) (sym is))

-- of one more
pub all_more : {A B : Type 0} (P : B → Type 0) (f : A → B) (xs : List A) (i : ℕ) (x : A) → i < length xs → x ≡ get_or xs i x → AllByRecursion P (map f (take i xs)) → P (f x) → AllByRecursion P (map f (take (i + 1) xs))
all_more P f xs i x h is so_far p = subst (AllByRecursion P) (sym (taken f xs i x h is)) (all_and P (map f (take i xs)) (f x) so_far p)
