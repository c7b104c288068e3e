-- Lists without their last elements, and from the last.
use Rattle.std.proofs.Common.{◌≡◌, ℕ, zero, suc, ◌+◌, ◌-◌, ◌<◌, ◌≤◌, Bool, true, map, List, [], ◌∷◌, ◌++◌, length, get_or, take, drop, Some, refl, sym, ap, ◌∙◌, arith, append_assoc, append-nil, length-append, length-drop, add-one}
use Rattle.std.specs.Prelude.{reverse}
use Rattle.std.specs.List.{prefix_len, suffix_len, slice_get}
use Rattle.std.proofs.Math.Seq.{take-append_seam}
use Rattle.std.proofs.lemmas.List.{length-map, take-map, reverse-append, map-append, take-append-drop}
use Rattle.std.proofs.lemmas.List.Sums.{suffix_len-take_yes}
use Rattle.fluent_syntax.specs.Layout.{without_last, trimmed, trim_last}
use Rattle.fluent_ast.specs.Tree.{Element}
use Rattle.fluent_syntax.specs.Inside.Backwards.{backwards}

-- what a loop that counts down keeps: so many elements at the end pass
pub turn : {A : Type 0} (p : A → Bool) (xs : List A) (n : ℕ) (d : A) → 0 < n → n ≤ length xs → p (get_or xs (n - 1) d) ≡ true
    → suffix_len p xs + n ≡ suffix_len p (take n xs) + length xs → suffix_len p xs + (n - 1) ≡ suffix_len p (take (n - 1) xs) + length xs
turn p xs n d some within pass kept = omega (arith, suffix_len-take_yes p xs n d some within pass)

pub stopped : {A : Type 0} (p : A → Bool) (xs : List A) (n : ℕ) → n ≤ length xs → suffix_len p (take n xs) ≡ 0
    → suffix_len p xs + n ≡ suffix_len p (take n xs) + length xs → take n xs ≡ without_last p xs
stopped p xs n within stop kept =
    let e : n ≡ length xs - suffix_len p xs = omega arith in
    ap (λ k. take k xs) e

pub none_left : {A : Type 0} (p : A → Bool) (xs : List A) (n : ℕ) → n ≤ 0 → suffix_len p (take n xs) ≡ 0
none_left p xs zero h = refl
none_left p xs (suc n) h = absurd (omega arith)

pub backwards-append : {A : Type 0} (xs ys : List A) → backwards (xs ++ ys) ≡ backwards ys ++ backwards xs
backwards-append [] ys = sym (append-nil (backwards ys))
backwards-append (x ∷ xs) ys = ap (λ w. w ++ x ∷ []) (backwards-append xs ys) ∙ append_assoc (backwards ys) (backwards xs) (x ∷ [])

pub backwards-reverse : {A : Type 0} (xs : List A) → reverse (backwards xs) ≡ xs
backwards-reverse [] = refl
backwards-reverse (x ∷ xs) = reverse-append (backwards xs) (x ∷ []) ∙ ap (λ w. x ∷ w) (backwards-reverse xs)

-- a list without its last element, from the last
pub popped : {A B : Type 0} (view : A → B) (old new : List A) (more : List B) (n : ℕ) → n ≡ length old → new ≡ take (n - 1) old → map view old ≡ backwards more → map view new ≡ backwards (drop 1 more)
popped view old new [] n len e h =
    let none : length old ≡ 0 = sym (length-map old view) ∙ ap length h in
    let z : n - 1 ≡ 0 = omega arith in
    ap (map view) (e ∙ ap (λ k. take k old) z)
popped view old new (y ∷ ys) n len e h =
    let l : length old ≡ length (backwards ys) + 1 = sym (length-map old view) ∙ (ap length h ∙ length-append (backwards ys) (y ∷ [])) in
    let z : n - 1 ≡ length (backwards ys) = omega arith in
    ap (map view) e ∙ (sym (take-map view (n - 1) old) ∙ (ap (take (n - 1)) h ∙ (ap (λ k. take k (backwards ys ++ y ∷ [])) z ∙ take-append_seam (backwards ys) (y ∷ []))))

-- an element is added after
pub pushed_prefix : {A B : Type 0} (view : A → B) (old new : List A) (x : A) (y : B) (more : List B) → map view old ≡ backwards more → new ≡ old ++ x ∷ [] → view x ≡ y → map view new ≡ backwards (y ∷ more)
pushed_prefix view old new x y more h e seen = ap (map view) e ∙ (map-append view old (x ∷ []) ∙ (ap (λ w. w ++ view x ∷ []) h ∙ ap (λ w. backwards more ++ w ∷ []) seen))

pub trim_last-is : (xs : List Element) (x : Element) → trim_last (xs ++ x ∷ []) ≡ xs ++ trimmed x
trim_last-is [] x = refl
trim_last-is (y ∷ []) x = refl
trim_last-is (y ∷ z ∷ zs) x = ap (λ w. y ∷ w) (trim_last-is (z ∷ zs) x)

pub length-backwards : {A : Type 0} (xs : List A) → length (backwards xs) ≡ length xs
length-backwards [] = refl
length-backwards (x ∷ xs) = length-append (backwards xs) (x ∷ []) ∙ (ap (λ n. n + 1) (length-backwards xs) ∙ add-one (length xs))

-- what is dropped from the last of a list is dropped from its prefix
pub trimmed_after : {A : Type 0} (p : A → Bool) (xs ys : List A) → ys ≡ backwards xs → reverse (without_last p ys) ≡ drop (prefix_len p xs) xs
trimmed_after p xs ys e =
    let n = prefix_len p xs in
    let same : suffix_len p ys ≡ n = ap (λ w. prefix_len p (reverse w)) e ∙ ap (prefix_len p) (backwards-reverse xs) in
    let parts : ys ≡ backwards (drop n xs) ++ backwards (take n xs) = e ∙ (ap backwards (sym (take-append-drop n xs)) ∙ backwards-append (take n xs) (drop n xs)) in
    let total : length ys ≡ length xs = ap length e ∙ length-backwards xs in
    let after : length (backwards (drop n xs)) ≡ length xs - n = length-backwards (drop n xs) ∙ length-drop n xs in
    let k : length ys - suffix_len p ys ≡ length (backwards (drop n xs)) = omega arith in
    let prefix : without_last p ys ≡ backwards (drop n xs) = ap (λ m. take m ys) k ∙ (ap (take (length (backwards (drop n xs)))) parts ∙ take-append_seam (backwards (drop n xs)) (backwards (take n xs))) in
    ap reverse prefix ∙ backwards-reverse (drop n xs)

-- the last element is taken off and put back trimmed
pub trimmed_last : {A : Type 0} (view : A → Element) (old new newer : List A) (x y : A) (x' y' : Element) → old ≡ new ++ x ∷ [] → newer ≡ new ++ y ∷ [] → view x ≡ x' → view y ≡ y' → y' ∷ [] ≡ trimmed x' → map view newer ≡ trim_last (map view old)
trimmed_last view old new newer x y x' y' e f vx vy t =
    let whole : map view old ≡ map view new ++ x' ∷ [] = ap (map view) e ∙ (map-append view new (x ∷ []) ∙ ap (λ w. map view new ++ w ∷ []) vx) in
    ap (map view) f ∙ (map-append view new (y ∷ []) ∙ (ap (λ w. map view new ++ w ∷ []) vy ∙ (ap (λ w. map view new ++ w) t ∙ (sym (trim_last-is (map view new) x') ∙ ap trim_last (sym whole)))))

-- or not put back, since nothing is left of it
pub trimmed_away : {A : Type 0} (view : A → Element) (old new : List A) (x : A) (x' : Element) → old ≡ new ++ x ∷ [] → view x ≡ x' → [] ≡ trimmed x' → map view new ≡ trim_last (map view old)
trimmed_away view old new x x' e vx t =
    let whole : map view old ≡ map view new ++ x' ∷ [] = ap (map view) e ∙ (map-append view new (x ∷ []) ∙ ap (λ w. map view new ++ w ∷ []) vx) in
    sym (append-nil (map view new)) ∙ (ap (λ w. map view new ++ w) t ∙ (sym (trim_last-is (map view new) x') ∙ ap trim_last (sym whole)))

-- a list up to its last element
up_to_last : {A : Type 0} (xs : List A) (x : A) (i : ℕ) → i ≡ length xs - 1 → slice_get xs i ≡ Some x → (prefix : List A) × (xs ≡ prefix ++ x ∷ [])
up_to_last [] x i e h = absurd (cc)
up_to_last (y ∷ []) x zero e h = ([], cc)
up_to_last (y ∷ []) x (suc i) e h = absurd (omega arith)
up_to_last (y ∷ z ∷ zs) x zero e h = absurd (omega arith)
up_to_last (y ∷ z ∷ zs) x (suc i) e h = let p = up_to_last (z ∷ zs) x i (omega arith) h in (y ∷ p.0, ap (λ w. y ∷ w) p.1)

-- the last element stays as it is
pub kept_last : {A : Type 0} (view : A → Element) (xs : List A) (x : A) → Some x ≡ slice_get xs (length xs - 1) → trimmed (view x) ≡ view x ∷ [] → map view xs ≡ trim_last (map view xs)
kept_last view xs x h t =
    let s = up_to_last xs x (length xs - 1) refl (sym h) in
    let whole : map view xs ≡ map view s.0 ++ view x ∷ [] = ap (map view) s.1 ∙ map-append view s.0 (x ∷ []) in
    whole ∙ (ap (λ w. map view s.0 ++ w) (sym t) ∙ (sym (trim_last-is (map view s.0) (view x)) ∙ ap trim_last (sym whole)))
