-- Numbers each once, when one more comes.
use Rattle.std.proofs.Common.{◌≡◌, ◌≢◌, ◌==◌, ◌∙◌, sym, ap, ℕ, ◌+◌, ◌<◌, Bool, true, false, List, [], ◌∷◌, ◌++◌, append-nil, append_assoc, map, drop, Option, Some, None, length, get_or, take, if◌then◌else◌, refl, arith, ⊎_elim}
use Rattle.std.proofs.lemmas.Bool.Decides.{eqb_tells, nat_tests}
use Rattle.std.proofs.lemmas.List.{map_more, map-append, take-append-drop}
use Rattle.std.proofs.lemmas.List.Elements.{filter-append, filter_map-append}
use Rattle.std.specs.Prelude.{not, ◌||◌}
use Rattle.std.specs.List.{filter, filter_map, list_any}
use Rattle.fluent_text.specs.Parser.{Text}
use Rattle.fluent_langneg.specs.Lookup.{each_once}
use Rattle.fluent_langneg.specs.Inside.IndexAmong.{with_index}

-- the numbers but this one
abbrev without : ℕ → List ℕ → List ℕ
without x xs = filter (λ m. not (m == x)) xs

-- another number is among them as before
any-without : (x p : ℕ) → x ≢ p → (xs : List ℕ) → list_any (λ m. m == p) (without x xs) ≡ list_any (λ m. m == p) xs
any-without x p apart [] = refl
any-without x p apart (m ∷ xs) = ⊎_elim
    (λ here. let off : (m == p) ≡ false = grind (arith, nat_tests) in rw (here.0, off) (any-without x p apart xs))
    (λ other. rw other.0 (ap (λ b. (m == p) || b) (any-without x p apart xs)))
    (eqb_tells m x)

-- a number after them, unless it is there
push_same : (x : ℕ) (b : Bool) (xs : List ℕ) → without x (if b then xs else xs ++ x ∷ []) ≡ without x xs
push_same x true xs = refl
push_same x false xs =
    let same : (x == x) ≡ true = grind (arith, nat_tests) in
    filter-append (λ m. not (m == x)) xs (x ∷ []) ∙ rw same (append-nil (without x xs))

push_other : (x p : ℕ) (b : Bool) (xs : List ℕ) → (p == x) ≡ false
    → x ∷ without x (if b then xs else xs ++ p ∷ []) ≡ (if b then x ∷ without x xs else (x ∷ without x xs) ++ p ∷ [])
push_other x p true xs off = refl
push_other x p false xs off = ap (λ ys. x ∷ ys) (filter-append (λ m. not (m == x)) xs (p ∷ []) ∙ rw off refl)

with_index-cons : (x p : ℕ) (xs : List ℕ) → x ∷ without x (with_index xs p) ≡ with_index (x ∷ without x xs) p
with_index-cons x p xs = ⊎_elim
    (λ here. let at : p ≡ x = sym here.1 in rw (here.0, at) (ap (λ ys. x ∷ ys) (push_same x (list_any (λ m. m == x) xs) xs)))
    (λ other. let off : (p == x) ≡ false = grind (arith, nat_tests) in
    rw (other.0, any-without x p other.1 xs) (push_other x p (list_any (λ m. m == p) xs) xs off))
    (eqb_tells x p)

each_once-push : (xs : List ℕ) (p : ℕ) → each_once (xs ++ p ∷ []) ≡ with_index (each_once xs) p
each_once-push [] p = refl
each_once-push (x ∷ xs) p = rw (each_once-push xs p) (with_index-cons x p (each_once xs))

-- ---- over ranges, of which each may have a number

module _ (h : Text → Option ℕ) where
  pub push_some : (xs : List Text) (x : Text) (p : ℕ) → h x ≡ Some p → each_once (filter_map h (xs ++ x ∷ [])) ≡ with_index (each_once (filter_map h xs)) p
  push_some xs x p is = rw (filter_map-append h xs (x ∷ []), is) (each_once-push (filter_map h xs) p)

  pub push_none : (xs : List Text) (x : Text) → h x ≡ None → each_once (filter_map h (xs ++ x ∷ [])) ≡ each_once (filter_map h xs)
  push_none xs x is = rw (filter_map-append h xs (x ∷ []), is, append-nil (filter_map h xs)) refl

  -- where one has a number, there are some
  each_once-some : (xs : List ℕ) (p : ℕ) (ys : List ℕ) → each_once (xs ++ (p ∷ ys)) ≡ [] → ⊥
  each_once-some [] p ys none = cc
  each_once-some (x ∷ xs) p ys none = cc

  pub some_number : (xs : List Text) (x : Text) (ys : List Text) (p : ℕ) → h x ≡ Some p → each_once (filter_map h (xs ++ (x ∷ ys))) ≡ [] → ⊥
  some_number xs x ys p is none =
      let one = rw (filter_map-append h xs (x ∷ ys), is) at none in
      each_once-some (filter_map h xs) p (filter_map h ys) one

  -- which holds for a range before a last one
  pub some_before : {R : Type 0} (text : R → Text) (rs : List R) (i : ℕ) (r : R) (last : Text) (p : ℕ) → i < length rs → get_or rs i r ≡ r → h (text r) ≡ Some p
      → each_once (filter_map h (map text rs ++ last ∷ [])) ≡ [] → ⊥
  some_before text rs i r last p below at is none =
      let prefix : map text (take (i + 1) rs) ≡ map text (take i rs) ++ text r ∷ [] = map_more text rs i r below ∙ ap (λ q. map text (take i rs) ++ text q ∷ []) at in
      let halves : map text rs ≡ (map text (take i rs) ++ text r ∷ []) ++ map text (drop (i + 1) rs) =
      ap (map text) (sym (take-append-drop (i + 1) rs)) ∙ map-append text (take (i + 1) rs) (drop (i + 1) rs) ∙ ap (λ ts. ts ++ map text (drop (i + 1) rs)) prefix in
      let whole : map text rs ++ last ∷ [] ≡ map text (take i rs) ++ (text r ∷ (map text (drop (i + 1) rs) ++ last ∷ [])) =
      rw halves (simp append_assoc) in
      some_number (map text (take i rs)) (text r) (map text (drop (i + 1) rs) ++ last ∷ []) p is (rw whole at none)
