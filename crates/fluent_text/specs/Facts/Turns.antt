-- The turns of a repetition, beside a loop that counts up.
use Rattle.std.proofs.Common.{map, [], ◌∷◌, ◌++◌, ◌≡◌, ℕ, suc, ◌-◌, ◌<◌, ◌≤◌, List, length, Some, None, ap, ◌∙◌, arith, nat_lt, true, false}
use Rattle.std.proofs.lemmas.Bool.Decides.{nat_tests}
use Rattle.fluent_text.specs.Parser.{Read, Parser, many_from, push}
use Rattle.std.proofs.lemmas.List.{map-append}

pub more : {A B : Type 0} (add : B → A → B) (p : Parser A) (k j : ℕ) (acc : B) (s : List ℕ) (x : A) (r : List ℕ)
    → k ≡ suc j → p s ≡ Some (x, r) → length r < length s → many_from add p k acc s ≡ many_from add p j (add acc x) r
unfolding many_from
more add p k j acc s x r k1 e h =
    let test : nat_lt (length r) (length s) ≡ true = grind (arith, nat_tests) in
    ap (λ n. many_from add p n acc s) k1 ∙ rw (e, test)

pub none : {A B : Type 0} (add : B → A → B) (p : Parser A) (k : ℕ) (acc : B) (s : List ℕ)
    → 0 < k → p s ≡ None → many_from add p k acc s ≡ Some (acc, s)
unfolding many_from
none add p k acc s room e =
    let k1 : k ≡ suc (k - 1) = omega arith in
    ap (λ n. many_from add p n acc s) k1 ∙ rw e

pub empty : {A B : Type 0} (add : B → A → B) (p : Parser A) (k : ℕ) (acc : B) (s : List ℕ) (x : A) (r : List ℕ)
    → 0 < k → p s ≡ Some (x, r) → length s ≤ length r → many_from add p k acc s ≡ Some (acc, s)
unfolding many_from
empty add p k acc s x r room e h =
    let k1 : k ≡ suc (k - 1) = omega arith in
    let test : nat_lt (length r) (length s) ≡ false = grind (arith, nat_tests) in
    ap (λ n. many_from add p n acc s) k1 ∙ rw (e, test)

pub done : {A B : Type 0} (add : B → A → B) (p : Parser A) (k : ℕ) (acc : B) (s : List ℕ)
    → k ≡ 0 → many_from add p k acc s ≡ Some (acc, s)
unfolding many_from
done add p k acc s e = ap (λ n. many_from add p n acc s) e

pub ruleset turns = (none, empty, done)

-- a turn of a loop that keeps what the whole repetition gives
pub next : {A B : Type 0} (add : B → A → B) (p : Parser A) (k j : ℕ) (acc : B) (s : List ℕ) (x : A) (r : List ℕ) (longer : B) (whole : Read B)
    → k ≡ suc j → p s ≡ Some (x, r) → length r < length s → longer ≡ add acc x → whole ≡ many_from add p k acc s → whole ≡ many_from add p j longer r
next add p k j acc s x r longer whole k1 e h l w = rw l (w ∙ more add p k j acc s x r k1 e h)

-- the same, where what is kept is seen through a view
pub pushed : {A B : Type 0} (view : A → B) (p : Parser B) (k j : ℕ) (acc : List A) (s : List ℕ) (x : A) (r : List ℕ) (longer : List A) (whole : Read (List B))
    → k ≡ suc j → p s ≡ Some (view x, r) → length r < length s → longer ≡ acc ++ x ∷ [] → whole ≡ many_from push p k (map view acc) s → whole ≡ many_from push p j (map view longer) r
pushed view p k j acc s x r longer whole k1 e h l w = next push p k j (map view acc) s (view x) r (map view longer) whole k1 e h (ap (map view) l ∙ map-append view acc (x ∷ [])) w
