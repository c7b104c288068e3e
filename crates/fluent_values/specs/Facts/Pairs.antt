-- Pairs in the order of their names: where a search ends, what is found there, and what a pair put there means.
use Rattle.std.specs.Prelude.{◌≡◌, ℕ, zero, suc, ◌+◌, ◌<◌, ◌≤◌, List, [], ◌∷◌, ◌++◌, ◌&&◌, Bool, true, false, cond, Some, None, T, Result, Ok, Err, is_ok, if◌then◌else◌, refl}
use Rattle.std.specs.Ordering.{nat_cmp, is_lt, is_eq, ordering_index, ordering_reverse}
use Rattle.std.specs.Cow.{cow_str_bytes}
use Rattle.std.specs.declared.borrow.CowStr.{CowStr}
use Rattle.std.specs.declared.cmp.Ordering.{Ordering}
use Rattle.std.specs.declared.cmp.Ordering.TheVariants.{Less, Equal, Greater}
use Rattle.std.specs.Cmp.Lexicographic.{slice_cmp, nat_list_cmp_total}
use Rattle.std.specs.FinMap.{put, find, is_sorted, slice_cmp-IsAntisymmetric, nat_cmp-IsAntisymmetric}
use Rattle.std.specs.FinMap.Entries.{below_all, by_order, is_sorted-put}
use Rattle.std.specs.List.{insert, AllWithin, HoldsAt}
use Rattle.std.specs.List.Sorted.{IsSearchInRange, IsBinarySearchResult, IsNonDecreasingBy}
use Rattle.std.specs.Str.{bytes_eq}
use Rattle.std.proofs.Common.{sym, ap, subst, ◌∙◌, arith, length, drop, get_or, set, Global}
use Rattle.std.proofs.lemmas.List.{append-nil, append_assoc, drop_more}
use Rattle.std.proofs.lemmas.List.Sorted.{searchable_from_sorted}
use Rattle.std.proofs.lemmas.Map.Text.{is_eq-slice_cmp}
use Rattle.fluent_ast.specs.Tree.{Text}
use Rattle.fluent_semantics.specs.Arguments.{set_all, IsInOrder}
use Rattle.fluent_values.specs.Names.{NamesRise, IsPlaceOf, to_name}
use Rattle.fluent_values.specs.Facts.Keyed.{both}
use Rattle.fluent_values.specs.Facts.Ordered.{prefix_of, rest_of, less_of}

abbrev pub bytes_cmp : Text → Text → Ordering
bytes_cmp = slice_cmp nat_cmp

turned : (a b : Text) (r : Ordering) → bytes_cmp a b ≡ r → bytes_cmp b a ≡ ordering_reverse r
turned a b r h = nat_list_cmp_total.antisymm b a ∙ ap ordering_reverse h

same_text : (a b : Text) → bytes_cmp a b ≡ Equal → a ≡ b
same_text a b h = slice_cmp-IsAntisymmetric nat_cmp-IsAntisymmetric a b h

module _ {K X Y : Type 0} (key : K → Text) (f : X → Y) where
  -- a name below all is below each
  below_at : (k : Text) (es : List (K × X)) (i : ℕ) (d : K × X) → T (below_all bytes_cmp k (both key f es)) → i < length es → bytes_cmp k (key (get_or es i d).0) ≡ Less
  below_at k [] i d h lt = absurd (omega (arith, lt))
  below_at k (e ∷ es) zero d h lt = less_of _ (prefix_of _ _ h)
  below_at k (e ∷ es) (suc i) d h lt = below_at k es i d (rest_of _ _ h) (omega (arith, lt))

  -- the first of a list whose later pair has the name
  first_smaller : (e : K × X) (es : List (K × X)) (i : ℕ) (k : Text) → T (is_sorted bytes_cmp (both key f (e ∷ es))) → i < length es → HoldsAt (λ x. bytes_cmp (key x.0) k ≡ Equal) es i → bytes_cmp k (key e.0) ≡ Greater
  first_smaller e es i k up lt is =
      turned (key e.0) k Less (subst (λ t. bytes_cmp (key e.0) t ≡ Less) (same_text _ _ (is e)) (below_at (key e.0) es i e (prefix_of _ _ up) lt))

  pub find_there : (es : List (K × X)) (i : ℕ) (k : Text) (d : K × X) → T (is_sorted bytes_cmp (both key f es)) → i < length es → HoldsAt (λ x. bytes_cmp (key x.0) k ≡ Equal) es i
      → find bytes_cmp k (both key f es) ≡ Some (f (get_or es i d).1)
  find_there [] i k d up lt is = absurd (omega (arith, lt))
  find_there (e ∷ es) zero k d up lt is = ap (λ r. cond (is_eq r) (Some (f e.1)) (find bytes_cmp k (both key f es))) (turned (key e.0) k Equal (is e))
  find_there (e ∷ es) (suc i) k d up lt is =
      ap (λ r. cond (is_eq r) (Some (f e.1)) (find bytes_cmp k (both key f es))) (first_smaller e es i k up (omega (arith, lt)) (λ d. is d))
      ∙ find_there es i k d (rest_of _ _ up) (omega (arith, lt)) (λ d. is d)

  -- one by one: the first left that has the name is found
  pub find_left : (es : List (K × X)) (i : ℕ) (e : K × X) (k : Text) → i < length es → e ≡ get_or es i e
      → find bytes_cmp k (both key f (drop i es)) ≡ cond (bytes_eq k (key e.0)) (Some (f e.1)) (find bytes_cmp k (both key f (drop (i + 1) es)))
  find_left es i e k lt is =
      ap (λ xs. find bytes_cmp k (both key f xs)) (drop_more es i e lt ∙ ap (λ x. x ∷ drop (i + 1) es) (sym is))
      ∙ ap (λ b. cond b (Some (f e.1)) (find bytes_cmp k (both key f (drop (i + 1) es)))) (is_eq-slice_cmp k (key e.0))

  -- and none where none is left
  pub find_none_left : (es : List (K × X)) (i : ℕ) (k : Text) → length es ≤ i → find bytes_cmp k (both key f (drop i es)) ≡ None
  find_none_left [] zero k h = refl
  find_none_left [] (suc i) k h = refl
  find_none_left (x ∷ es) zero k h = absurd (omega (arith, h))
  find_none_left (x ∷ es) (suc i) k h = find_none_left es i k (omega (arith, h))

  pub put_there : (es : List (K × X)) (i : ℕ) (k : K) (x : X) → T (is_sorted bytes_cmp (both key f es)) → i < length es → HoldsAt (λ e. bytes_cmp (key e.0) (key k) ≡ Equal) es i
      → both key f (set es i (k, x)) ≡ put bytes_cmp (key k) (f x) (both key f es)
  put_there [] i k x up lt is = absurd (omega (arith, lt))
  put_there (e ∷ es) zero k x up lt is =
      ap (λ t. (t, f x) ∷ both key f es) (sym (same_text _ _ (is e)))
      ∙ sym (ap (λ r. by_order r ((key k, f x) ∷ both key f (e ∷ es)) ((key e.0, f x) ∷ both key f es) ((key e.0, f e.1) ∷ put bytes_cmp (key k) (f x) (both key f es))) (turned (key e.0) (key k) Equal (is e)))
  put_there (e ∷ es) (suc i) k x up lt is =
      ap (λ rest. (key e.0, f e.1) ∷ rest) (put_there es i k x (rest_of _ _ up) (omega (arith, lt)) (λ d. is d))
      ∙ sym (ap (λ r. by_order r ((key k, f x) ∷ both key f (e ∷ es)) ((key e.0, f x) ∷ both key f es) ((key e.0, f e.1) ∷ put bytes_cmp (key k) (f x) (both key f es))) (first_smaller e es i (key k) up (omega (arith, lt)) (λ d. is d)))

  pub find_in_gap : (es : List (K × X)) (i : ℕ) (k : Text) → AllWithin (λ e. bytes_cmp (key e.0) k ≡ Less) es 0 i → AllWithin (λ e. bytes_cmp (key e.0) k ≡ Greater) es i (length es)
      → find bytes_cmp k (both key f es) ≡ None
  find_in_gap [] i k low high = refl
  find_in_gap (e ∷ es) zero k low high =
      ap (λ r. cond (is_eq r) (Some (f e.1)) (find bytes_cmp k (both key f es))) (turned (key e.0) k Greater (high 0 e (omega arith) (omega arith)))
      ∙ find_in_gap es 0 k (λ j d a b. absurd (omega (arith, b))) (λ j d a b. high (suc j) d (omega arith) (omega (arith, b)))
  find_in_gap (e ∷ es) (suc i) k low high =
      ap (λ r. cond (is_eq r) (Some (f e.1)) (find bytes_cmp k (both key f es))) (turned (key e.0) k Less (low 0 e (omega arith) (omega arith)))
      ∙ find_in_gap es i k (λ j d a b. low (suc j) d (omega arith) (omega (arith, b))) (λ j d a b. high (suc j) d (omega (arith, a)) (omega (arith, b)))

  pub put_in_gap : (es : List (K × X)) (i : ℕ) (k : K) (x : X) → i ≤ length es
      → AllWithin (λ e. bytes_cmp (key e.0) (key k) ≡ Less) es 0 i → AllWithin (λ e. bytes_cmp (key e.0) (key k) ≡ Greater) es i (length es)
      → both key f (insert es i (k, x)) ≡ put bytes_cmp (key k) (f x) (both key f es)
  put_in_gap [] zero k x le low high = refl
  put_in_gap [] (suc i) k x le low high = absurd (omega (arith, le))
  put_in_gap (e ∷ es) zero k x le low high =
      sym (ap (λ r. by_order r ((key k, f x) ∷ both key f (e ∷ es)) ((key e.0, f x) ∷ both key f es) ((key e.0, f e.1) ∷ put bytes_cmp (key k) (f x) (both key f es)))
      (turned (key e.0) (key k) Greater (high 0 e (omega arith) (omega arith))))
  put_in_gap (e ∷ es) (suc i) k x le low high =
      ap (λ rest. (key e.0, f e.1) ∷ rest) (put_in_gap es i k x (omega (arith, le)) (λ j d a b. low (suc j) d (omega arith) (omega (arith, b))) (λ j d a b. high (suc j) d (omega (arith, a)) (omega (arith, b))))
      ∙ sym (ap (λ r. by_order r ((key k, f x) ∷ both key f (e ∷ es)) ((key e.0, f x) ∷ both key f es) ((key e.0, f e.1) ∷ put bytes_cmp (key k) (f x) (both key f es)))
      (turned (key e.0) (key k) Less (low 0 e (omega arith) (omega arith))))

-- the order is that of the keys, whatever stands beside them
module _ {K X Y Z : Type 0} (key : K → Text) (f : X → Y) (g : X → Z) where
  same_below : (k : Text) (es : List (K × X)) → below_all bytes_cmp k (both key f es) ≡ below_all bytes_cmp k (both key g es)
  same_below k [] = refl
  same_below k (e ∷ es) = ap (λ b. is_lt (bytes_cmp k (key e.0)) && b) (same_below k es)

  same_order : (es : List (K × X)) → is_sorted bytes_cmp (both key f es) ≡ is_sorted bytes_cmp (both key g es)
  same_order [] = refl
  same_order (e ∷ es) = ap (λ b. b && is_sorted bytes_cmp (both key f es)) (same_below (key e.0) es) ∙ ap (λ b. below_all bytes_cmp (key e.0) (both key g es) && b) (same_order es)

-- names that rise do so whatever the values are seen as
pub rise_seen : {X Y : Type 0} (f : X → Y) (es : List (CowStr Global × X)) → NamesRise es → T (is_sorted bytes_cmp (both cow_str_bytes f es))
rise_seen f es h = subst T (same_order cow_str_bytes (λ x. x) f es) h

as_true : (b : Bool) → T b → b ≡ true
as_true true h = refl
as_true false h = absurd h

-- the same, as the meaning says it
pub in_order : {X Y : Type 0} (f : X → Y) (es : List (CowStr Global × X)) → NamesRise es → IsInOrder (both cow_str_bytes f es)
in_order f es h = as_true _ (rise_seen f es h)

module _ {X : Type 0} where
  abbrev pub as_it_is : List (CowStr Global × X) → List (Text × X)
  as_it_is = both cow_str_bytes (λ x. x)

  abbrev name_at : List (CowStr Global × X) → ℕ → CowStr Global × X → Text
  name_at es k d = cow_str_bytes (get_or es k d).0

  rise_by_one : (es : List (CowStr Global × X)) → NamesRise es → (k : ℕ) (d : CowStr Global × X) → suc k < length es → bytes_cmp (name_at es k d) (name_at es (suc k) d) ≡ Less
  rise_by_one [] h k d lt = absurd (omega (arith, lt))
  rise_by_one (e ∷ es) h zero d lt = below_at cow_str_bytes (λ x. x) (cow_str_bytes e.0) es 0 d (prefix_of _ _ h) (omega (arith, lt))
  rise_by_one (e ∷ es) h (suc k) d lt = rise_by_one es (rest_of _ _ h) k d (omega (arith, lt))

  no_fall : (es : List (CowStr Global × X)) → NamesRise es → (k next : ℕ) (d : CowStr Global × X) → suc k ≡ next → next < length es → is_lt (bytes_cmp (name_at es next d) (name_at es k d)) ≡ false
  no_fall es h k next d is lt =
      let up : bytes_cmp (name_at es k d) (name_at es next d) ≡ Less = subst (λ n. bytes_cmp (name_at es k d) (name_at es n d) ≡ Less) is (rise_by_one es h k d (omega (arith, is, lt))) in
      ap is_lt (turned (name_at es k d) (name_at es next d) Less up)

  comparisons_rise : (name : Text) (es : List (CowStr Global × X)) → NamesRise es → IsNonDecreasingBy (λ e. ordering_index (to_name name e)) es
  comparisons_rise name es h =
      searchable_from_sorted nat_list_cmp_total (λ (e : CowStr Global × X). cow_str_bytes e.0) es name
      (λ k d a b. no_fall es h k (k + 1) d (omega arith) b)

  pub searched : (name : Text) (es : List (CowStr Global × X)) → NamesRise es → (r : Result ℕ ℕ) → IsSearchInRange r (length es) → IsBinarySearchResult (to_name name) es r → IsPlaceOf name es r
  searched name es h (Ok i) in_range equal = (in_range, equal)
  searched name es h (Err i) in_range parted = (in_range, (parted (comparisons_rise name es h)).0, (parted (comparisons_rise name es h)).1)

  -- both ways of setting a pair keep the order
  pub rise_there : (es : List (CowStr Global × X)) (i : ℕ) (k : CowStr Global) (x : X) → NamesRise es → i < length es → HoldsAt (λ e. to_name (cow_str_bytes k) e ≡ Equal) es i → NamesRise (set es i (k, x))
  rise_there es i k x h lt is =
      subst (λ m. T (is_sorted bytes_cmp m)) (sym (put_there cow_str_bytes (λ y. y) es i k x h lt is)) (is_sorted-put bytes_cmp nat_list_cmp_total (cow_str_bytes k) x (as_it_is es) h)

  rise_in_gap : (es : List (CowStr Global × X)) (i : ℕ) (k : CowStr Global) (x : X) → NamesRise es → i ≤ length es
      → AllWithin (λ e. to_name (cow_str_bytes k) e ≡ Less) es 0 i → AllWithin (λ e. to_name (cow_str_bytes k) e ≡ Greater) es i (length es) → NamesRise (insert es i (k, x))
  rise_in_gap es i k x h le low high =
      subst (λ m. T (is_sorted bytes_cmp m)) (sym (put_in_gap cow_str_bytes (λ y. y) es i k x le low high)) (is_sorted-put bytes_cmp nat_list_cmp_total (cow_str_bytes k) x (as_it_is es) h)

  pub rise_after : {U E : Type 0} (r : Result U E) (es fs : List (CowStr Global × X)) (i : ℕ) (k : CowStr Global) (x : X) → NamesRise es → IsPlaceOf (cow_str_bytes k) es (Err i)
      → fs ≡ (if is_ok r then insert es i (k, x) else es) → NamesRise fs
  rise_after (Ok u) es fs i k x h at is = subst NamesRise (sym is) (rise_in_gap es i k x h at.0 at.1 at.2)
  rise_after (Err e) es fs i k x h at is = subst NamesRise (sym is) h

-- pairs in order that are set one after another are themselves
module _ {Y : Type 0} where
  below_later : (k : Text) (before : List (Text × Y)) (e : Text × Y) (es : List (Text × Y)) → T (below_all bytes_cmp k (before ++ e ∷ es)) → bytes_cmp k e.0 ≡ Less
  below_later k [] e es h = less_of _ (prefix_of _ _ h)
  below_later k (d ∷ before) e es h = below_later k before e es (rest_of _ _ h)

  put_at_end : (before : List (Text × Y)) (e : Text × Y) (es : List (Text × Y)) → T (is_sorted bytes_cmp (before ++ e ∷ es)) → put bytes_cmp e.0 e.1 before ≡ before ++ e ∷ []
  put_at_end [] e es h = refl
  put_at_end (d ∷ before) e es h =
      ap (λ r. by_order r ((e.0, e.1) ∷ d ∷ before) ((d.0, e.1) ∷ before) (d ∷ put bytes_cmp e.0 e.1 before)) (turned d.0 e.0 Less (below_later d.0 before e es (prefix_of _ _ h)))
      ∙ ap (λ rest. d ∷ rest) (put_at_end before e es (rest_of _ _ h))

  set_all_from : (before es : List (Text × Y)) → T (is_sorted bytes_cmp (before ++ es)) → set_all es before ≡ before ++ es
  set_all_from before [] h = sym (append-nil before)
  set_all_from before (e ∷ es) h =
      ap (set_all es) (put_at_end before e es h)
      ∙ set_all_from (before ++ e ∷ []) es (subst (λ l. T (is_sorted bytes_cmp l)) (sym (append_assoc before (e ∷ []) es)) h)
      ∙ append_assoc before (e ∷ []) es

  pub set_all_in_order : (es : List (Text × Y)) → T (is_sorted bytes_cmp es) → set_all es [] ≡ es
  set_all_in_order es h = set_all_from [] es h
