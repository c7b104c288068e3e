-- What is among the elements of a list.
use Rattle.std.proofs.Common.{◌≡◌, ◌⊎◌, ℕ, zero, suc, ◌<◌, List, [], ◌∷◌, ◌++◌, length, get_or, map, inl, inr, refl, sym, ap, subst, arith}
use Rattle.std.specs.List.{AllByRecursion}
use Rattle.fluent_places.specs.Needs.{IsAmong}
use Rattle.fluent_places.specs.Facts.Growing.{at_last, last_of, wider}

-- ---- with one more at the end

pub pushed_kept : {A : Type 0} (old new : List A) (y x : A) → new ≡ old ++ y ∷ [] → IsAmong x old → IsAmong x new
pushed_kept old new y x e h = subst (IsAmong x) (sym e) (wider x y old h)

pub pushed_here : {A : Type 0} (old new : List A) (y : A) → new ≡ old ++ y ∷ [] → IsAmong y new
pushed_here old new y e = subst (IsAmong y) (sym e) (at_last y old)

pub pushed_only : {A : Type 0} (old new : List A) (y x : A) → new ≡ old ++ y ∷ [] → IsAmong x new → IsAmong x old ⊎ (x ≡ y)
pushed_only old new y x e h = last_of x y old (subst (IsAmong x) e h)

-- ---- with others behind, or before

pub joined_left : {A : Type 0} (x : A) (xs ys : List A) → IsAmong x xs → IsAmong x (xs ++ ys)
joined_left x [] ys h = absurd h
joined_left x (z ∷ zs) ys (inl here) = inl here
joined_left x (z ∷ zs) ys (inr later) = inr (joined_left x zs ys later)

pub joined_right : {A : Type 0} (x : A) (xs ys : List A) → IsAmong x ys → IsAmong x (xs ++ ys)
joined_right x [] ys h = h
joined_right x (z ∷ zs) ys h = inr (joined_right x zs ys h)

pub all_joined : {A : Type 0} (P : A → Type 0) (xs ys : List A) → AllByRecursion P xs → AllByRecursion P ys → AllByRecursion P (xs ++ ys)
all_joined P [] ys h k = k
all_joined P (x ∷ xs) ys h k = (h.0, all_joined P xs ys h.1 k)

-- ---- of all of a list

-- what stands at a place of a list is there whatever the default
pub got_self : {A : Type 0} (xs : List A) (i : ℕ) (d : A) → i < length xs → get_or xs i d ≡ get_or xs i (get_or xs i d)
got_self [] i d h = absurd (omega arith)
got_self (x ∷ xs) zero d h = refl
got_self (x ∷ xs) (suc i) d h = got_self xs i d (omega arith)

pub mapped : {A B : Type 0} (f : A → B) (xs : List A) (x : A) → IsAmong x xs → IsAmong (f x) (map f xs)
mapped f [] x h = absurd h
mapped f (y ∷ ys) x (inl same) = inl (ap f same)
mapped f (y ∷ ys) x (inr later) = inr (mapped f ys x later)

pub unmapped : {A B : Type 0} (f : A → B) (xs : List A) (y : B) → IsAmong y (map f xs) → (x : A) × IsAmong x xs × (y ≡ f x)
unmapped f [] y h = absurd h
unmapped f (x ∷ xs) y (inl same) = (x, inl refl, same)
unmapped f (x ∷ xs) y (inr later) = let r = unmapped f xs y later in (r.0, inr r.1, r.2)

pub one_of : {A : Type 0} (P : A → Type 0) (xs : List A) (x : A) → IsAmong x xs → AllByRecursion P xs → P x
one_of P [] x h all = absurd h
one_of P (y ∷ ys) x (inl same) all = subst P (sym same) all.0
one_of P (y ∷ ys) x (inr later) all = one_of P ys x later all.1

pub all_of : {A : Type 0} (P : A → Type 0) (xs : List A) → ((x : A) → IsAmong x xs → P x) → AllByRecursion P xs
all_of P [] f = tt
all_of P (x ∷ xs) f = (f x (inl refl), all_of P xs (λ y h. f y (inr h)))

pub some_of : {A : Type 0} (xs : List A) → (xs ≡ [] → ⊥) → (x : A) × IsAmong x xs
some_of [] never = absurd (never refl)
some_of (x ∷ xs) never = (x, inl refl)
