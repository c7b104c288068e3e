-- Lists of which all have a property, and that grow.
use Rattle.std.proofs.Common.{◌≡◌, ◌⊎◌, ◌∙◌, ℕ, zero, suc, ◌+◌, ◌<◌, List, [], ◌∷◌, ◌++◌, length, get_or, slice_get, map, take, Some, inl, inr, refl, sym, ap, subst, add-one, arith}
use Rattle.std.specs.List.{AllByRecursion}
use Rattle.std.proofs.lemmas.List.{take_more, map-append}
use Rattle.fluent_places.specs.Needs.{IsAmong}

all_snoc : {A : Type 0} (P : A → Type 0) (xs : List A) (x : A) → AllByRecursion P xs → P x → AllByRecursion P (xs ++ x ∷ [])
all_snoc P [] x h p = (p, tt)
all_snoc P (y ∷ ys) x h p = (h.0, all_snoc P ys x h.1 p)

pub all_pushed : {A : Type 0} (P : A → Type 0) (old new : List A) (x : A) → new ≡ old ++ x ∷ [] → AllByRecursion P old → P x → AllByRecursion P new
all_pushed P old new x e h p = subst (AllByRecursion P) (sym e) (all_snoc P old x h p)

all_next : {A B : Type 0} (P : B → Type 0) (f : A → B) (xs : List A) (i : ℕ) (x : A) → i < length xs → x ≡ get_or xs i x → AllByRecursion P (map f (take i xs)) → P (f x) → AllByRecursion P (map f (take (suc i) xs))
all_next P f [] i x h is all p = absurd (omega arith)
all_next P f (y ∷ ys) zero x h is all p = (subst (λ z. P (f z)) is p, tt)
all_next P f (y ∷ ys) (suc i) x h is all p = (all.0, all_next P f ys i x (omega arith) is all.1 p)

-- one more of those so far
pub all_more : {A B : Type 0} (P : B → Type 0) (f : A → B) (xs : List A) (i : ℕ) (x : A) → i < length xs → x ≡ get_or xs i x → AllByRecursion P (map f (take i xs)) → P (f x) → AllByRecursion P (map f (take (i + 1) xs))
all_more P f xs i x h is all p = rw add-one (all_next P f xs i x h is all p)

-- an element is among them
pub among_at : {A B : Type 0} (f : A → B) (xs : List A) (i : ℕ) (x : A) → i < length xs → x ≡ get_or xs i x → IsAmong (f x) (map f xs)
among_at f [] i x h is = absurd (omega arith)
among_at f (y ∷ ys) zero x h is = inl (ap f is)
among_at f (y ∷ ys) (suc i) x h is = inr (among_at f ys i x (omega arith) is)

pub all_map : {A : Type 0} (P Q : A → Type 0) (xs : List A) → ((x : A) → P x → Q x) → AllByRecursion P xs → AllByRecursion Q xs
all_map P Q [] f h = tt
all_map P Q (x ∷ xs) f h = (f x h.0, all_map P Q xs f h.1)

got_next : {A : Type 0} (P : A → Type 0) (xs : List A) (i : ℕ) (x : A) → slice_get xs i ≡ Some x → AllByRecursion P (take i xs) → P x → AllByRecursion P (take (suc i) xs)
got_next P [] i x at all p = tt
got_next P (y ∷ ys) zero x at all p = let same : y ≡ x = cc in (subst P (sym same) p, tt)
got_next P (y ∷ ys) (suc i) x at all p = (all.0, got_next P ys i x at all.1 p)

-- one more, by its index
pub all_got : {A : Type 0} (P : A → Type 0) (xs : List A) (i : ℕ) (x : A) → slice_get xs i ≡ Some x → AllByRecursion P (take i xs) → P x → AllByRecursion P (take (i + 1) xs)
all_got P xs i x at all p = rw add-one (got_next P xs i x at all p)

-- ---- those so far, with one more

pub prefix : {A B : Type 0} (f : A → B) (xs : List A) (i : ℕ) (x : A) → i < length xs → x ≡ get_or xs i x → map f (take (i + 1) xs) ≡ map f (take i xs) ++ f x ∷ []
prefix f xs i x h is = ap (map f) (take_more xs i x h) ∙ (map-append f (take i xs) (get_or xs i x ∷ []) ∙ ap (λ u. map f (take i xs) ++ f u ∷ []) (sym is))

pub last_of : {B : Type 0} (x y : B) (ys : List B) → IsAmong x (ys ++ y ∷ []) → IsAmong x ys ⊎ (x ≡ y)
last_of x y [] (inl here) = inr here
last_of x y [] (inr never) = absurd never
last_of x y (z ∷ zs) (inl here) = inl (inl here)
last_of x y (z ∷ zs) (inr later) = elim (last_of x y zs later) [ inl h ↦ inl (inr h) | inr h ↦ inr h ]

pub wider : {B : Type 0} (x y : B) (ys : List B) → IsAmong x ys → IsAmong x (ys ++ y ∷ [])
wider x y [] h = absurd h
wider x y (z ∷ zs) (inl here) = inl here
wider x y (z ∷ zs) (inr later) = inr (wider x y zs later)

pub at_last : {B : Type 0} (y : B) (ys : List B) → IsAmong y (ys ++ y ∷ [])
at_last y [] = inl refl
at_last y (z ∷ zs) = inr (at_last y zs)

pub so_far : {A B : Type 0} (f : A → B) (xs : List A) (i : ℕ) (x : A) (y : B) → i < length xs → x ≡ get_or xs i x → IsAmong y (map f (take (i + 1) xs)) → IsAmong y (map f (take i xs)) ⊎ (y ≡ f x)
so_far f xs i x y h is among = last_of y (f x) (map f (take i xs)) (subst (IsAmong y) (prefix f xs i x h is) among)

pub further : {A B : Type 0} (f : A → B) (xs : List A) (i : ℕ) (x : A) (y : B) → i < length xs → x ≡ get_or xs i x → IsAmong y (map f (take i xs)) → IsAmong y (map f (take (i + 1) xs))
further f xs i x y h is among = subst (IsAmong y) (sym (prefix f xs i x h is)) (wider y (f x) (map f (take i xs)) among)

pub this_one : {A B : Type 0} (f : A → B) (xs : List A) (i : ℕ) (x : A) → i < length xs → x ≡ get_or xs i x → IsAmong (f x) (map f (take (i + 1) xs))
this_one f xs i x h is = subst (IsAmong (f x)) (sym (prefix f xs i x h is)) (at_last (f x) (map f (take i xs)))

pub no_items : {A : Type 0} (xs : List A) → length xs ≡ 0 → xs ≡ []
no_items [] h = refl
no_items (x ∷ xs) h = absurd cc
