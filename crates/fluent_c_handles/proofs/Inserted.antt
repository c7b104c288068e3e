-- An id that is put among others.
use Rattle.std.proofs.Common.{◌≡◌, List, [], ◌∷◌, Ordering, Less, Equal, Greater, refl, ap}
use Rattle.std.specs.Borrow.{Bor}
use Rattle.std.specs.BTreeSet.{insert_key}
use Rattle.std.specs.Ordering.{nat_cmp, match_ordering}
use Rattle.std.specs.Cmp.Lexicographic.{slice_cmp}
use Rattle.std.specs.FinMap.Entries.{by_order}
use Rattle.fluent_ast.specs.Tree.{Text}
use Rattle.fluent_semantics.specs.Arguments.{set}
use Rattle.fluent_c_handles.specs.Inside.Gathered.{seen}

abbrev id_cmp : Bor Text → Bor Text → Ordering
id_cmp x y = slice_cmp nat_cmp x.now y.now

pub seen_inserted : (ids : List (Bor Text)) (id : Bor Text) → seen (insert_key id_cmp ids id) ≡ set id.now tt (seen ids)
seen_inserted [] id = refl
seen_inserted (x ∷ xs) id = by (id_cmp id x) (seen_inserted xs id)
  where
    by : (r : Ordering) → seen (insert_key id_cmp xs id) ≡ set id.now tt (seen xs) → seen (match_ordering r (id ∷ x ∷ xs) (x ∷ xs) (x ∷ insert_key id_cmp xs id)) ≡ by_order r ((id.now, tt) ∷ seen (x ∷ xs)) ((x.now, tt) ∷ seen xs) ((x.now, tt) ∷ set id.now tt (seen xs))
    by Less rest = refl
    by Equal rest = refl
    by Greater rest = ap (λ es. (x.now, tt) ∷ es) rest
