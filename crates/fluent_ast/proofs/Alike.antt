-- Lists that have the same content under a view, from the start.
use Rattle.std.proofs.Common.{◌≡◌, ◌↔◌, ℕ, ◌+◌, ◌<◌, ◌≤◌, IsTrue, true, false, List, [], ◌∷◌, ◌++◌, length, get_or, take, map, refl, sym, ap, subst, ◌∙◌}
use Rattle.std.proofs.lemmas.Bool.{false≢true}
use Rattle.std.proofs.lemmas.List.{take_more, map-append, get_or-map, length-map, take_all}

prefix : {A B : Type 0} (f : A → B) (zs : List A) (i : ℕ) (z : A) → i < length zs → z ≡ get_or zs i z → map f (take (i + 1) zs) ≡ map f (take i zs) ++ f z ∷ []
prefix f zs i z hz ez = ap (map f) (take_more zs i z hz) ∙ (map-append f (take i zs) (get_or zs i z ∷ []) ∙ ap (λ u. map f (take i zs) ++ f u ∷ []) (sym ez))

-- one more
pub alike_more : {A B : Type 0} (f : A → B) (xs ys : List A) (i : ℕ) (x y : A) → i < length xs → length xs ≡ length ys → x ≡ get_or xs i x → y ≡ get_or ys i y
    → map f (take i xs) ≡ map f (take i ys) → (IsTrue true ↔ (f x ≡ f y)) → map f (take (i + 1) xs) ≡ map f (take (i + 1) ys)
alike_more f xs ys i x y hx long ex ey h same =
    prefix f xs i x hx ex ∙ (ap (λ u. u ++ f x ∷ []) h ∙ (ap (λ u. map f (take i ys) ++ u ∷ []) (same.0 refl) ∙ sym (prefix f ys i y (subst (λ n. i < n) long hx) ey)))

-- all of them
pub alike_all : {A B : Type 0} (f : A → B) (xs ys : List A) (n : ℕ) → length xs ≤ n → length xs ≡ length ys → map f (take n xs) ≡ map f (take n ys) → IsTrue true ↔ (map f xs ≡ map f ys)
alike_all f xs ys n hx long h =
    (λ w. ap (map f) (sym (take_all n xs hx)) ∙ (h ∙ ap (map f) (take_all n ys (subst (λ k. k ≤ n) long hx))), λ e. refl)

-- one that differs
pub unlike_at : {A B : Type 0} (f : A → B) (xs ys : List A) (i : ℕ) (x y : A) → i < length xs → length xs ≡ length ys → x ≡ get_or xs i x → y ≡ get_or ys i y
    → (IsTrue false ↔ (f x ≡ f y)) → IsTrue false ↔ (map f xs ≡ map f ys)
unlike_at f xs ys i x y hx long ex ey other = (
  λ w. absurd (false≢true w),
  λ h. other.1 (ap f ex ∙ (sym (get_or-map f xs i x (f x) hx) ∙ (ap (λ zs. get_or zs i (f x)) h ∙ (get_or-map f ys i y (f x) (subst (λ n. i < n) long hx) ∙ ap f (sym ey))))),
)

-- lengths that differ
pub unlike_length : {A B : Type 0} (f : A → B) (xs ys : List A) → (length xs ≡ length ys → ⊥) → IsTrue false ↔ (map f xs ≡ map f ys)
unlike_length f xs ys other = (λ w. absurd (false≢true w), λ h. absurd (other (sym (length-map xs f) ∙ (ap length h ∙ length-map ys f))))
