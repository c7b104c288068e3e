-- Rows in order are found by halves.
use Rattle.std.proofs.Common.{◌≡◌, ℕ, zero, suc, ◌<◌, ◌≢◌, ◌≤◌, true, false, ◌==◌, nat_lt, if◌then◌else◌, List, [], ◌∷◌, map, Option, Some, None, find, length, get_or, slice_get, refl, sym, subst, ◌∙◌, arith, inl, inr, lt-ltb, ltb-true, eqb-true}
use Rattle.std.specs.List.{AllWithin, list_all}
use Rattle.std.specs.List.Sorted.{IsPartitionedBy, IsPartitionPoint}
use Rattle.std.proofs.lemmas.Bool.{cases_Bool, and_parts, ltb-false}
use Rattle.std.proofs.lemmas.Bool.Decides.{nat_tests}
use Rattle.fluent_text.specs.Parser.{Text}
use Rattle.fluent_intl.specs.LanguageTags.{same_tag}
use Rattle.fluent_plural_rules.specs.Inside.Rows.{CodeRow, Row, row_view, is_row_of, byte_at, key, is_keyed, rise_above, rise, are_in_order}

-- ---- one tag has one key

same_bytes : (a b : Text) (n : ℕ) → same_tag a b ≡ true → byte_at n a ≡ byte_at n b
same_bytes [] [] n same = refl
same_bytes [] (y ∷ b) n same = absurd (grind (arith, nat_tests))
same_bytes (x ∷ a) [] n same = absurd (grind (arith, nat_tests))
same_bytes (x ∷ a) (y ∷ b) zero same = grind (arith, nat_tests)
same_bytes (x ∷ a) (y ∷ b) (suc n) same = same_bytes a b n (grind (arith, nat_tests))

same_key : (a b : Text) → same_tag a b ≡ true → key a ≡ key b
same_key a b same =
    rw (same_bytes a b 0 same, same_bytes a b 1 same, same_bytes a b 2 same, same_bytes a b 3 same, same_bytes a b 4 same, same_bytes a b 5 same, same_bytes a b 6 same, same_bytes a b 7 same) refl

-- two tags with two keys are not the same
other : (a b : Text) (k : ℕ) → (k == key a) ≡ true → k ≢ key b → same_tag a b ≡ false
other a b k keyed differs =
    elim (cases_Bool (same_tag a b)) [
      | inl same ↦ absurd (differs (eqb-true k (key a) keyed ∙ same_key a b same))
      | inr not ↦ not
    ]

-- ---- what stands where a search by halves ends

-- none has a tag whose key is below all of theirs
pub none_above : (tag : Text) (bound : ℕ) (xs : List CodeRow) → key tag ≤ bound → list_all is_keyed (map row_view xs) ≡ true
    → rise_above bound (map row_view xs) ≡ true → find (is_row_of tag) (map row_view xs) ≡ None
none_above tag bound [] le keyed up = refl
none_above tag bound (x ∷ xs) le keyed up =
    let keys = and_parts (is_keyed (row_view x)) (list_all is_keyed (map row_view xs)) keyed in
    let ups = and_parts (nat_lt bound x.0) (rise_above x.0 (map row_view xs)) up in
    let above : bound < x.0 = ltb-true bound x.0 ups.0 in
    let no = other x.1.now tag x.0 keys.0 (λ e. omega arith) in
    rw no (none_above tag x.0 xs (omega arith) keys.1 ups.1)

-- the row at a place, if it has this tag
abbrev pub here : Text → Option CodeRow → Option Row
here tag None = None
here tag (Some x) = if same_tag x.1.now tag then Some (row_view x) else None

rise_tail : (k : ℕ) (rs : List Row) → rise_above k rs ≡ true → rise rs ≡ true
rise_tail k [] up = refl
rise_tail k (r ∷ rs) up = (and_parts (nat_lt k r.0) (rise_above r.0 rs) up).1

abbrev Below : ℕ → CodeRow → Type 0
Below k x = nat_lt x.0 k ≡ true

abbrev NotBelow : ℕ → CodeRow → Type 0
NotBelow k x = nat_lt x.0 k ≡ false

pub found_at : (tag : Text) (xs : List CodeRow) (i : ℕ) → list_all is_keyed (map row_view xs) ≡ true → rise (map row_view xs) ≡ true
    → AllWithin (Below (key tag)) xs 0 i → AllWithin (NotBelow (key tag)) xs i (length xs)
    → here tag (slice_get xs i) ≡ find (is_row_of tag) (map row_view xs)
found_at tag [] i keyed up below above = refl
found_at tag (x ∷ xs) zero keyed up below above =
    let keys = and_parts (is_keyed (row_view x)) (list_all is_keyed (map row_view xs)) keyed in
    let first : key tag ≤ x.0 = ltb-false x.0 (key tag) (above 0 x (omega arith) (omega arith)) in
    elim (cases_Bool (same_tag x.1.now tag)) [
      | inl same ↦ rw same refl
      | inr not ↦ rw not (sym (none_above tag x.0 xs first keys.1 up))
    ]
found_at tag (x ∷ xs) (suc i) keyed up below above =
    let keys = and_parts (is_keyed (row_view x)) (list_all is_keyed (map row_view xs)) keyed in
    let first : x.0 < key tag = ltb-true x.0 (key tag) (below 0 x (omega arith) (omega arith)) in
    let no = other x.1.now tag x.0 keys.0 (λ e. omega arith) in
    rw no (found_at tag xs i keys.1 (rise_tail x.0 (map row_view xs) up) (λ k d a b. below (suc k) d (omega arith) (omega arith)) (λ k d a b. above (suc k) d (omega arith) (omega arith)))

-- where a search by halves for the key of a tag ends, stands the row of the tag, if there is one
pub halved : (tag : Text) (k : ℕ) (xs : List CodeRow) (i : ℕ) → k ≡ key tag → are_in_order (map row_view xs) ≡ true
    → IsPartitionPoint (λ x. nat_lt x.0 k ≡ true) (λ x. nat_lt x.0 k ≡ false) xs i → here tag (slice_get xs i) ≡ find (is_row_of tag) (map row_view xs)
halved tag k xs i is order point =
    let parts = and_parts (list_all is_keyed (map row_view xs)) (rise (map row_view xs)) order in
    let cut = subst (λ m. IsPartitionPoint (λ x. nat_lt x.0 m ≡ true) (λ x. nat_lt x.0 m ≡ false) xs i) is point in
    found_at tag xs i parts.0 parts.1 cut.0 cut.1

-- ---- rows in order are parted by each key

rising_above : (bound : ℕ) (xs : List CodeRow) → rise_above bound (map row_view xs) ≡ true → (j : ℕ) (d : CodeRow) → j < length xs → bound < (get_or xs j d).0
rising_above bound [] up j d below = elim below [ ]
rising_above bound (x ∷ xs) up zero d below = ltb-true bound x.0 (and_parts (nat_lt bound x.0) (rise_above x.0 (map row_view xs)) up).0
rising_above bound (x ∷ xs) up (suc j) d below =
    let parts = and_parts (nat_lt bound x.0) (rise_above x.0 (map row_view xs)) up in
    let first : bound < x.0 = ltb-true bound x.0 parts.0 in
    let rest : x.0 < (get_or xs j d).0 = rising_above x.0 xs parts.1 j d (omega arith) in
    omega arith

rising : (xs : List CodeRow) → rise (map row_view xs) ≡ true → (i j : ℕ) (d : CodeRow) → i ≤ j → j < length xs → (get_or xs i d).0 ≤ (get_or xs j d).0
rising [] up i j d le below = elim below [ ]
rising (x ∷ xs) up zero zero d le below = omega arith
rising (x ∷ xs) up zero (suc j) d le below =
    let rest : x.0 < (get_or xs j d).0 = rising_above x.0 xs up j d (omega arith) in
    omega arith
rising (x ∷ xs) up (suc i) zero d le below = absurd (omega arith)
rising (x ∷ xs) up (suc i) (suc j) d le below = rising xs (rise_tail x.0 (map row_view xs) up) i j d (omega arith) (omega arith)

pub parted : (k : ℕ) (xs : List CodeRow) → are_in_order (map row_view xs) ≡ true → IsPartitionedBy (λ x. nat_lt x.0 k) xs
parted k xs order i j d le below passes =
    let up = (and_parts (list_all is_keyed (map row_view xs)) (rise (map row_view xs)) order).1 in
    let apart : (get_or xs i d).0 ≤ (get_or xs j d).0 = rising xs up i j d le below in
    let under : (get_or xs j d).0 < k = ltb-true (get_or xs j d).0 k passes in
    lt-ltb (get_or xs i d).0 k (omega arith)
