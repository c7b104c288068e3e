-- A set of contents has each once, and keeps the indices of those that it has.
use Rattle.std.proofs.Common.{◌≡◌, ℕ, zero, suc, List, [], ◌∷◌, ◌++◌, true, false, Bool, ap, sym, subst, ◌∙◌, refl, map, Some, slice_get, unwrap_or, if◌then◌else◌, ◌||◌}
use Rattle.std.specs.List.{IsDistinct, list_any, AllByRecursion}
use Rattle.std.proofs.lemmas.Map.Keys.{IsDistinct-tail, IsDistinct-head}
use Rattle.std.proofs.lemmas.Option.{slice_get-map}
use Rattle.std.proofs.lemmas.List.{map-append}
use Rattle.std.proofs.lemmas.Bool.{false≢true}
use Rattle.std.specs.Option.{option_map}
use Rattle.fluent_ast.specs.Tree.{Pattern, is_yes, pattern_same}
use Rattle.fluent_references.specs.Classes.{HasClass, with_class}
use Rattle.fluent_references.specs.Inside.Content.{content}
use Rattle.fluent_references.specs.declared.stored.Stored.{Stored}

-- two stored patterns have the same content
abbrev alike : Stored → Stored → Bool
alike a b = is_yes (pattern_same (content a) (content b))

same_content : {P : Type 0} (d : Dec P) → is_yes d ≡ true → P
same_content (yes p) h = p
same_content (no n) h = absurd (false≢true h)

is_alike : {P : Type 0} (d : Dec P) → P → is_yes d ≡ true
is_alike (yes p) h = refl
is_alike (no n) h = absurd (n h)

some_is : {A : Type 0} (x y : A) → Some x ≡ Some y → x ≡ y
some_is x y h = ap (λ o. unwrap_or o x) h

clash : (k : Stored) (ks : List Stored) → AllByRecursion (λ y. alike k y ≡ false) ks → (j : ℕ) → HasClass (map content ks) j (content k) → ⊥
clash k [] h j at = cc
clash k (y ∷ ys) h zero at = false≢true (sym h.0 ∙ is_alike (pattern_same (content k) (content y)) (sym (some_is (content y) (content k) at)))
clash k (y ∷ ys) h (suc j) at = clash k ys h.1 j at

pub distinct : (ks : List Stored) → IsDistinct alike ks → (i j : ℕ) (p : Pattern) → HasClass (map content ks) i p → HasClass (map content ks) j p → i ≡ j
distinct [] d i j p at at' = absurd (cc)
distinct (k ∷ ks) d zero zero p at at' = refl
distinct (k ∷ ks) d zero (suc j) p at at' = absurd (clash k ks (IsDistinct-head alike k ks d) j (at' ∙ sym at))
distinct (k ∷ ks) d (suc i) zero p at at' = absurd (clash k ks (IsDistinct-head alike k ks d) i (at ∙ sym at'))
distinct (k ∷ ks) d (suc i) (suc j) p at at' = ap suc (distinct ks (IsDistinct-tail alike k ks d) i j p at at')

still : {X : Type 0} (xs ys : List X) (c : ℕ) (x : X) → slice_get xs c ≡ Some x → slice_get (xs ++ ys) c ≡ Some x
still [] ys c x h = absurd cc
still (y ∷ xs) ys zero x h = h
still (y ∷ xs) ys (suc c) x h = still xs ys c x h

pub kept_in : (ks : List Stored) (k : Stored) (c : ℕ) (p : Pattern) → HasClass (map content ks) c p → HasClass (map content (if list_any (alike k) ks then ks else ks ++ k ∷ [])) c p
kept_in ks k c p at = by (list_any (alike k) ks)
  where
    by : (b : Bool) → HasClass (map content (if b then ks else ks ++ k ∷ [])) c p
    by true = at
    by false = subst (λ ps. HasClass ps c p) (sym (map-append content ks (k ∷ []))) (still (map content ks) (map content (k ∷ [])) c p at)

any_mapped : (t : Pattern → Bool) (ks : List Stored) → list_any t (map content ks) ≡ list_any (λ k. t (content k)) ks
any_mapped t [] = refl
any_mapped t (k ∷ ks) = ap (λ b. t (content k) || b) (any_mapped t ks)

-- the contents after an insertion
pub stored_in : (ks : List Stored) (k : Stored) → map content (if list_any (alike k) ks then ks else ks ++ k ∷ []) ≡ with_class (content k) (map content ks)
stored_in ks k = by (list_any (alike k) ks) ∙ sym (ap (λ b. if b then map content ks else map content ks ++ content k ∷ []) (any_mapped (λ q. is_yes (pattern_same (content k) q)) ks))
  where
    by : (b : Bool) → map content (if b then ks else ks ++ k ∷ []) ≡ (if b then map content ks else map content ks ++ content k ∷ [])
    by true = refl
    by false = map-append content ks (k ∷ [])

pub class_is : (ks : List Stored) (c : ℕ) (k v : Stored) → slice_get ks c ≡ Some k → alike v k ≡ true → HasClass (map content ks) c (content v)
class_is ks c k v at same = slice_get-map content ks c ∙ (ap (option_map content) at ∙ ap Some (sym (same_content (pattern_same (content v) (content k)) same)))
