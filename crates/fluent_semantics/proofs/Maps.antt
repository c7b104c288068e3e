-- Maps by texts.
use Rattle.std.proofs.Common.{◌≡◌, List, [], ◌∷◌, Bool, true, false, Some, is_some, cond, if◌then◌else◌, refl, sym, ap, subst, ◌∙◌, T, Ordering, Less, Equal, Greater}
use Rattle.std.specs.Ordering.{nat_cmp, eq_by_cmp, is_eq}
use Rattle.std.specs.Bool.{Decides, one_answer}
use Rattle.std.specs.Cmp.{tied_itself}
use Rattle.std.specs.Cmp.Lexicographic.{slice_cmp, nat_list_cmp_total, bytes_decides}
use Rattle.std.specs.FinMap.{slice_cmp-IsAntisymmetric, nat_cmp-IsAntisymmetric}
use Rattle.std.specs.FinMap.Entries.{find-put, is_sorted-put, same_entries}
use Rattle.fluent_ast.specs.Tree.{Text}
use Rattle.fluent_semantics.specs.Number.{is_text}
use Rattle.fluent_semantics.specs.Arguments.{Map, get, set, set_all, IsInOrder}
use Rattle.fluent_semantics.specs.Users.{last_of}

abbrev same_key : Text → Text → Bool
same_key q k = eq_by_cmp (slice_cmp nat_cmp) q k

is_equal : (o : Ordering) → is_eq o ≡ true → o ≡ Equal
is_equal Less h = absurd cc
is_equal Equal h = refl
is_equal Greater h = absurd cc

same_key_decides : (q k : Text) → Decides (same_key q k) (q ≡ k)
same_key_decides q k = (
  λ h. slice_cmp-IsAntisymmetric nat_cmp-IsAntisymmetric q k (is_equal _ h),
  λ e. subst (λ x. same_key q x ≡ true) e (ap is_eq (tied_itself nat_list_cmp_total q)),
)

-- the order of keys ties them where their bytes are equal
pub same_key_is_text : (q k : Text) → same_key q k ≡ is_text q k
same_key_is_text q k = one_answer (same_key q k) (is_text q k) (same_key_decides q k) (bytes_decides q k)

so : (b : Bool) → T b → b ≡ true
so true h = refl
so false h = absurd h

given : (b : Bool) → b ≡ true → T b
given b h = subst T (sym h) tt

module _ {A : Type 0} where
  pub get_set : (q k : Text) (v : A) (m : Map A) → get q (set k v m) ≡ (if is_text q k then Some v else get q m)
  get_set q k v m = find-put (slice_cmp nat_cmp) nat_list_cmp_total q k v m ∙ ap (λ b. cond b (Some v) (get q m)) (same_key_is_text q k)

  pub last_stands : (q : Text) (es : List (Text × A)) (m : Map A) → get q (set_all es m) ≡ last_of q es (get q m)
  last_stands q [] m = refl
  last_stands q (e ∷ es) m = last_stands q es (set e.0 e.1 m) ∙ ap (last_of q es) (get_set q e.0 e.1 m)

  -- what stands at a key stays where the key is there before it is set
  pub unless_there : (q k : Text) (v w : A) (m : Map A) → get q m ≡ Some w → get q (if is_some (get k m) then m else set k v m) ≡ Some w
  unless_there q k v w m h = by (is_some (get k m)) refl
    where
      other : (b : Bool) → is_text q k ≡ b → is_some (get k m) ≡ false → (if b then Some v else get q m) ≡ Some w
      other true e j = absurd (let there : is_some (get k m) ≡ true = ap is_some (ap (λ x. get x m) (sym ((bytes_decides q k).0 e)) ∙ h) in cc)
      other false e j = h

      by : (b : Bool) → is_some (get k m) ≡ b → get q (if b then m else set k v m) ≡ Some w
      by true e = h
      by false e = get_set q k v m ∙ other (is_text q k) refl e

  -- ---- maps in order

  pub set_in_order : (k : Text) (v : A) (m : Map A) → IsInOrder m → IsInOrder (set k v m)
  set_in_order k v m h = so _ (is_sorted-put (slice_cmp nat_cmp) nat_list_cmp_total k v m (given _ h))

  pub same_maps : (m n : Map A) → IsInOrder m → IsInOrder n → ((q : Text) → get q m ≡ get q n) → m ≡ n
  same_maps m n h j same = same_entries (slice_cmp nat_cmp) nat_list_cmp_total (slice_cmp-IsAntisymmetric nat_cmp-IsAntisymmetric) m n (given _ h) (given _ j) same
