-- Arguments in the order of their names mean what they meant before: the last of a name is the same.
use Rattle.std.proofs.Common.{◌≡◌, List, [], ◌∷◌, ◌&&◌, Bool, true, false, not, Option, Some, None, cond, map, refl, sym, ap, ◌∙◌, T, Ordering, Less, Equal, Greater}
use Rattle.std.specs.Borrow.{Bor}
use Rattle.std.specs.List.{filter}
use Rattle.std.specs.List.Sorted.{ties, IsStableByKey}
use Rattle.std.specs.Ordering.{nat_cmp, eq_by_cmp, is_lt, is_eq, ordering_reverse}
use Rattle.std.specs.Cmp.Lexicographic.{slice_cmp, nat_list_cmp_total}
use Rattle.std.specs.FinMap.{slice_cmp-IsAntisymmetric, nat_cmp-IsAntisymmetric}
use Rattle.std.specs.FinMap.Entries.{find-put, is_sorted-put, is_sorted, same_entries}
use Rattle.fluent_ast.specs.Tree.{Text}
use Rattle.fluent_semantics.specs.Arguments.{Map, get, set, set_all}
use Rattle.fluent_semantics.specs.Value.{Value}
use Rattle.fluent_answers.specs.Values.{argument_pair, argument_values}
use Rattle.fluent_answers.specs.ArgumentView.{argument_view}
use Rattle.fluent_answers.specs.declared.argument.Argument.{Argument}

abbrev order : Text → Text → Ordering
order = slice_cmp nat_cmp

abbrev pub name_cmp : Bor Text → Bor Text → Ordering
name_cmp x y = order x.now y.now

abbrev pair : Argument → Text × Value Text
pair a = argument_pair (argument_view a)

-- the value that stands at a key after pairs were set
abbrev last_at : Text → List (Text × Value Text) → Option (Value Text) → Option (Value Text)
last_at q [] v = v
last_at q (e ∷ es) v = last_at q es (cond (eq_by_cmp order q e.0) (Some e.1) v)

get_set_all : (q : Text) (es : List (Text × Value Text)) (m : Map (Value Text)) → get q (set_all es m) ≡ last_at q es (get q m)
get_set_all q [] m = refl
get_set_all q (e ∷ es) m = get_set_all q es (set e.0 e.1 m) ∙ ap (last_at q es) (find-put order nat_list_cmp_total q e.0 e.1 m)

set_all_rises : (es : List (Text × Value Text)) (m : Map (Value Text)) → T (is_sorted order m) → T (is_sorted order (set_all es m))
set_all_rises [] m h = h
set_all_rises (e ∷ es) m h = set_all_rises es (set e.0 e.1 m) (is_sorted-put order nat_list_cmp_total e.0 e.1 m h)

-- only what has the key counts
last_of_filtered : (q : Text) (p : Argument → Bool) → ((a : Argument) → p a ≡ eq_by_cmp order q a.name.now) → (xs : List Argument) (v : Option (Value Text)) → last_at q (map pair (filter p xs)) v ≡ last_at q (map pair xs) v
last_of_filtered q p same [] v = refl
last_of_filtered q p same (x ∷ xs) v = by (last_of_filtered q p same xs) (p x) refl
  where
    by : ((w : Option (Value Text)) → last_at q (map pair (filter p xs)) w ≡ last_at q (map pair xs) w) → (b : Bool) → p x ≡ b → last_at q (map pair (cond b (x ∷ filter p xs) (filter p xs))) v ≡ last_at q (map pair xs) (cond (eq_by_cmp order q x.name.now) (Some (pair x).1) v)
    by rest true h = rest (cond (eq_by_cmp order q x.name.now) (Some (pair x).1) v)
    by rest false h = rest v ∙ ap (λ b. last_at q (map pair xs) (cond b (Some (pair x).1) v)) (sym h ∙ same x)

-- two names tie where they are equal
tie_is_equal : (x y : Text) → (not (is_lt (order x y)) && not (is_lt (order y x))) ≡ eq_by_cmp order x y
tie_is_equal x y = ap (λ o. not (is_lt (order x y)) && not (is_lt o)) (nat_list_cmp_total.antisymm y x) ∙ by (order x y)
  where
    by : (o : Ordering) → (not (is_lt o) && not (is_lt (ordering_reverse o))) ≡ is_eq o
    by Less = refl
    by Equal = refl
    by Greater = refl

module _ (xs ys : List Argument) (stable : IsStableByKey (λ a. a.name) name_cmp xs ys) where
  -- by an argument that has the name
  same_by : (like : Argument) (q : Text) → last_at q (map pair ys) None ≡ last_at q (map pair xs) None
  same_by like q =
      let named : Argument = record like { name = record like.name { now = q } } in
      let p : Argument → Bool = ties (λ a b. is_lt (name_cmp a.name b.name)) named in
      let equal : (a : Argument) → p a ≡ eq_by_cmp order q a.name.now = λ a. tie_is_equal q a.name.now in
      sym (last_of_filtered q p equal ys None) ∙ ap (λ zs. last_at q (map pair zs) None) (stable named) ∙ last_of_filtered q p equal xs None

same_last : (xs ys : List Argument) → IsStableByKey (λ a. a.name) name_cmp xs ys → (q : Text) → last_at q (map pair ys) None ≡ last_at q (map pair xs) None
same_last [] [] stable q = refl
same_last [] (y ∷ ys) stable q = same_by [] (y ∷ ys) stable y q
same_last (x ∷ xs) ys stable q = same_by (x ∷ xs) ys stable x q

pairs_of : (xs : List Argument) → map argument_pair (map argument_view xs) ≡ map pair xs
pairs_of [] = refl
pairs_of (x ∷ xs) = ap (λ es. pair x ∷ es) (pairs_of xs)

pub same_values : (xs ys : List Argument) → IsStableByKey (λ a. a.name) name_cmp xs ys → argument_values (map argument_view ys) ≡ argument_values (map argument_view xs)
same_values xs ys stable =
    same_entries order nat_list_cmp_total (slice_cmp-IsAntisymmetric nat_cmp-IsAntisymmetric) (argument_values (map argument_view ys)) (argument_values (map argument_view xs))
    (set_all_rises (map argument_pair (map argument_view ys)) [] tt) (set_all_rises (map argument_pair (map argument_view xs)) [] tt)
    (λ q. get_set_all q (map argument_pair (map argument_view ys)) []
    ∙ ap (λ es. last_at q es None) (pairs_of ys) ∙ same_last xs ys stable q ∙ ap (λ es. last_at q es None) (sym (pairs_of xs))
    ∙ sym (get_set_all q (map argument_pair (map argument_view xs)) []))
