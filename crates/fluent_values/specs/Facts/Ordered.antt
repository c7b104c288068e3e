-- Entries whose keys rise are the finite map that they mean.
use Rattle.std.specs.Prelude.{◌≡◌, List, [], ◌∷◌, ◌&&◌, Bool, true, false, cond, Some, None, T, refl}
use Rattle.std.specs.Ordering.{nat_cmp, is_lt, is_eq}
use Rattle.std.specs.declared.cmp.Ordering.{Ordering}
use Rattle.std.specs.declared.cmp.Ordering.TheVariants.{Less, Equal, Greater}
use Rattle.std.specs.Cmp.Lexicographic.{slice_cmp, nat_list_cmp_total}
use Rattle.std.specs.FinMap.{from_entries, entries, empty, len-empty, len-entries, entries-insert, put, find, is_sorted}
use Rattle.std.specs.FinMap.Entries.{below_all, by_order}
use Rattle.std.specs.List.{AllByRecursion}
use Rattle.std.specs.List.Sorted.{IsStrictlySortedBy}
use Rattle.std.specs.Map.{keys_of}
use Rattle.std.proofs.Common.{sym, ap, subst, ◌∙◌, arith, length}
use Rattle.fluent_ast.specs.Tree.{Text}
use Rattle.fluent_values.specs.Facts.Keyed.{both}

abbrev pub bytes_cmp : Text → Text → Ordering
bytes_cmp = slice_cmp nat_cmp

pub prefix_of : (a b : Bool) → T (a && b) → T a
prefix_of true b h = tt
prefix_of false b h = absurd h

pub rest_of : (a b : Bool) → T (a && b) → T b
rest_of true b h = h
rest_of false b h = absurd h

both_of : (a b : Bool) → T a → T b → T (a && b)
both_of true b h j = j
both_of false b h j = absurd h

pub less_of : (r : Ordering) → T (is_lt r) → r ≡ Less
less_of Less h = refl
less_of Equal h = absurd h
less_of Greater h = absurd h

nothing_long : {A : Type 0} (es : List A) → length es ≡ 0 → es ≡ []
nothing_long [] h = refl
nothing_long (e ∷ es) h = absurd (omega arith)

module _ {Y : Type 0} where
  pub entries_of_empty : entries (empty {X = Y} {R = bytes_cmp}) ≡ []
  entries_of_empty = nothing_long _ (sym (len-entries empty) ∙ len-empty bytes_cmp Y)

  put_in_prefix : (k : Text) (v : Y) (es : List (Text × Y)) → T (below_all bytes_cmp k es) → put bytes_cmp k v es ≡ (k, v) ∷ es
  put_in_prefix k v [] h = refl
  put_in_prefix k v (e ∷ es) h = ap (λ r. by_order r ((k, v) ∷ e ∷ es) ((e.0, v) ∷ es) (e ∷ put bytes_cmp k v es)) (less_of _ (prefix_of _ _ h))

  pub entries_in_order : (es : List (Text × Y)) → T (is_sorted bytes_cmp es) → entries (from_entries {R = bytes_cmp} es) ≡ es
  entries_in_order [] h = entries_of_empty
  entries_in_order (e ∷ es) h =
      entries-insert nat_list_cmp_total (from_entries es) e.0 e.1
      ∙ ap (put bytes_cmp e.0 e.1) (entries_in_order es (rest_of _ _ h))
      ∙ put_in_prefix e.0 e.1 es (prefix_of _ _ h)

  pub not_below_itself : (k : Text) (es : List (Text × Y)) → T (below_all bytes_cmp k es) → find bytes_cmp k es ≡ None
  not_below_itself k [] h = refl
  not_below_itself k (e ∷ es) h =
      ap (λ r. cond (is_eq r) (Some e.1) (find bytes_cmp k es)) (less_of _ (prefix_of _ _ h)) ∙ not_below_itself k es (rest_of _ _ h)

-- what a map of std says of the order of its keys
module _ {K X Y : Type 0} (key : K → Text) (f : X → Y) where
  below_first : (k : K) (es : List (K × X)) → AllByRecursion (λ y. bytes_cmp (key k) (key y) ≡ Less) (keys_of es) → T (below_all bytes_cmp (key k) (both key f es))
  below_first k [] h = tt
  below_first k (e ∷ es) h = both_of _ _ (subst (λ r. T (is_lt r)) (sym h.0) tt) (below_first k es h.1)

  pub keys_rise : (es : List (K × X)) → IsStrictlySortedBy (λ x y. bytes_cmp (key x) (key y)) (keys_of es) → T (is_sorted bytes_cmp (both key f es))
  unfolding IsStrictlySortedBy
  keys_rise [] h = tt
  keys_rise (e ∷ es) h = both_of _ _ (below_first e.0 es h.0) (keys_rise es h.1)

  -- such a map, by content, is its entries themselves
  pub entries_themselves : (es : List (K × X)) → IsStrictlySortedBy (λ x y. bytes_cmp (key x) (key y)) (keys_of es) → both key f es ≡ entries (from_entries {R = bytes_cmp} (both key f es))
  entries_themselves es h = sym (entries_in_order (both key f es) (keys_rise es h))
