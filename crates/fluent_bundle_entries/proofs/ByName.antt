-- Slots by ids, and the finite map that they mean.
use Rattle.std.specs.Prelude.{◌≡◌, List, [], ◌∷◌, Option, None, Some, refl, cond, true, false, Bool, is_some, length}
use Rattle.std.specs.Option.{option_map}
use Rattle.std.specs.Ordering.{nat_cmp, eq_by_cmp}
use Rattle.std.specs.declared.cmp.Ordering.{Ordering}
use Rattle.std.specs.Cmp.{eq_by_cmp_equiv}
use Rattle.std.specs.Cmp.Lexicographic.{slice_cmp, nat_list_cmp_total, texts_ties}
use Rattle.std.specs.FinMap.{FinMap, from_entries, insert, entries, find, put, empty, get, get-entries, len-entries, len-empty, entries-insert, get-from_entries, get-insert, same_map, slice_cmp-IsAntisymmetric, nat_cmp-IsAntisymmetric}
use Rattle.std.specs.Map.{lookup}
use Rattle.std.specs.Str.{bytes_eq}
use Rattle.std.specs.List.{filter_map, cons_option}
use Rattle.std.proofs.Common.{sym, ◌∙◌, ap, Bor}
use Rattle.std.proofs.lemmas.Slice.Eq.{bytes_eq-Decides}
use Rattle.fluent_ast.specs.Tree.{Text}
use Rattle.fluent_references.specs.Slots.{named, flat}
use Rattle.fluent_bundle_entries.specs.EntryView.{filled, by_name}

pub borrowed_view : {X Y : Type 0} (f : X → Y) (o : Option (Bor X)) → option_map (λ r. f r.now) o ≡ option_map f (option_map (λ r. r.now) o)
borrowed_view f None = refl
borrowed_view f (Some r) = refl

pub some_mapped : {X Y : Type 0} (f : X → Y) (o : Option X) → is_some (option_map f o) ≡ is_some o
some_mapped f None = refl
some_mapped f (Some x) = refl

abbrev pub bytes_cmp : Text → Text → Ordering
bytes_cmp = slice_cmp nat_cmp

module _ {X Y : Type 0} (f : X → Y) where
  -- what is kept of each id that the test gives something for
  abbrev pub given_by : (Text → Option X) → List (Text × Option X) → List (Text × Y)
  given_by g ts = filter_map (λ s. option_map (λ x. (s.0, f x)) (g s.0)) ts

  one_given : (b : Bool) (o : Option X) (q k : Text) (rest : List (Text × Y)) (in_rest : Bool) (o' : Option X) → bytes_eq q k ≡ b → (q ≡ k → o' ≡ o)
      → find bytes_cmp q rest ≡ cond in_rest (option_map f o') None
      → find bytes_cmp q (cons_option (option_map (λ x. (k, f x)) o) rest) ≡ cond (cond b true in_rest) (option_map f o') None
  one_given true None q k rest in_rest o' at same is =
      let none : o' ≡ None = same ((bytes_eq-Decides q k).0 at) in
      is ∙ ap (λ p. cond in_rest (option_map f p) None) none
      ∙ (elim in_rest as (λ b. cond {A = Option Y} b None None ≡ None) [ true ↦ refl | false ↦ refl ])
      ∙ sym (ap (option_map f) none)
  one_given true (Some x) q k rest in_rest o' at same is =
      ap (λ b. cond b (Some (f x)) (find bytes_cmp q rest)) (sym (texts_ties q k) ∙ at) ∙ sym (ap (option_map f) (same ((bytes_eq-Decides q k).0 at)))
  one_given false None q k rest in_rest o' at same is = is
  one_given false (Some x) q k rest in_rest o' at same is =
      ap (λ b. cond b (Some (f x)) (find bytes_cmp q rest)) (sym (texts_ties q k) ∙ at) ∙ is

  find_given : (g : Text → Option X) (ts : List (Text × Option X)) (q : Text) → find bytes_cmp q (given_by g ts) ≡ cond (is_some (lookup (bytes_eq q) ts)) (option_map f (g q)) None
  find_given g [] q = refl
  find_given g (t ∷ ts) q =
      one_given (bytes_eq q t.0) (g t.0) q t.0 (given_by g ts) (is_some (lookup (bytes_eq q) ts)) (g q) refl (ap g) (find_given g ts q)
      ∙ ap (λ b. cond b (option_map f (g q)) None)
      (elim (bytes_eq q t.0) as (λ b. cond b true (is_some (lookup (bytes_eq q) ts)) ≡ is_some (cond b (Some t.1) (lookup (bytes_eq q) ts))) [ true ↦ refl | false ↦ refl ])

  find_filled : (ss : List (Text × Option X)) (q : Text) → find bytes_cmp q (filled f ss) ≡ option_map f (named q ss)
  find_filled ss q =
      find_given (λ k. named k ss) ss q
      ∙ (elim (lookup (bytes_eq q) ss) as (λ o. cond (is_some o) (option_map f (flat o)) None ≡ option_map f (flat o)) [ None ↦ refl | Some x ↦ refl ])

  get_filled : (ss : List (Text × Option X)) (q : Text) → get (from_entries {R = bytes_cmp} (filled f ss)) q ≡ option_map f (named q ss)
  get_filled ss q = get-from_entries nat_list_cmp_total (filled f ss) q ∙ find_filled ss q

  -- a look-up among the slots is one in the map that they mean
  pub get_named : (ss : List (Text × Option X)) (q : Text) → find bytes_cmp q (by_name (filled f ss)) ≡ option_map f (named q ss)
  get_named ss q = sym (get-entries (from_entries (filled f ss)) q) ∙ get_filled ss q

  -- whether a slot was found
  pub is_named_by : (ss : List (Text × Option X)) (q : Text) (r : Option (Bor X)) → option_map (λ x. x.now) r ≡ named q ss → is_some r ≡ is_some (find bytes_cmp q (by_name (filled f ss)))
  is_named_by ss q r is = sym (some_mapped (λ x. x.now) r) ∙ ap is_some is ∙ sym (some_mapped f (named q ss)) ∙ sym (ap is_some (get_named ss q))

  mapped_cond : (b : Bool) (x : X) (o : Option X) → option_map f (cond b (Some x) o) ≡ cond b (Some (f x)) (option_map f o)
  mapped_cond true x o = refl
  mapped_cond false x o = refl

  same_maps : (m n : FinMap bytes_cmp Y) → ((q : Text) → get m q ≡ get n q) → m ≡ n
  same_maps m n is = same_map nat_list_cmp_total (slice_cmp-IsAntisymmetric nat_cmp-IsAntisymmetric) m n is

  -- slots of which each id names the same mean the same
  pub same_named : (ss ts : List (Text × Option X)) → ((q : Text) → named q ts ≡ named q ss) → by_name (filled f ts) ≡ by_name (filled f ss)
  same_named ss ts h = ap entries (same_maps _ _ (λ q. get_filled ts q ∙ ap (option_map f) (h q) ∙ sym (get_filled ss q)))

  inserted : (ss ts : List (Text × Option X)) (k : Text) (x : X) → ((q : Text) → named q ts ≡ cond (bytes_eq k q) (Some x) (named q ss))
      → (q : Text) → get (from_entries {R = bytes_cmp} (filled f ts)) q ≡ get (insert (from_entries {R = bytes_cmp} (filled f ss)) k (f x)) q
  inserted ss ts k x h q =
      let tied : bytes_eq k q ≡ eq_by_cmp bytes_cmp q k = texts_ties k q ∙ (eq_by_cmp_equiv nat_list_cmp_total).symm k q in
      get_filled ts q ∙ ap (option_map f) (h q) ∙ mapped_cond (bytes_eq k q) x (named q ss)
      ∙ ap (λ b. cond b (Some (f x)) (option_map f (named q ss))) tied
      ∙ sym (get-insert nat_list_cmp_total (from_entries (filled f ss)) k (f x) q ∙ ap (cond (eq_by_cmp bytes_cmp q k) (Some (f x))) (get_filled ss q))

  -- what is put into a slot is set in the map that they mean
  pub put_named : (ss ts : List (Text × Option X)) (k : Text) (x : X) → ((q : Text) → named q ts ≡ cond (bytes_eq k q) (Some x) (named q ss))
      → by_name (filled f ts) ≡ put bytes_cmp k (f x) (by_name (filled f ss))
  put_named ss ts k x h = ap entries (same_maps _ _ (inserted ss ts k x h)) ∙ entries-insert nat_list_cmp_total (from_entries (filled f ss)) k (f x)

length_zero : {A : Type 0} (l : List A) → length l ≡ 0 → l ≡ []
length_zero [] e = refl
length_zero (x ∷ l) e = cc

-- no pairs mean the empty map
pub none_named : {Y : Type 0} → by_name {A = Y} [] ≡ []
none_named {Y = Y} = length_zero _ (sym (len-entries (empty {X = Y} {R = bytes_cmp})) ∙ len-empty bytes_cmp Y)

-- nor do no slots
pub none_filled : {X Y : Type 0} (f : X → Y) (ss : List (Text × Option X)) → ss ≡ [] → by_name (filled f ss) ≡ []
none_filled f ss h = ap (λ ss. by_name (filled f ss)) h ∙ none_named
