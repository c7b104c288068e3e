-- A map by keys that are seen as texts, and the finite map that it means.
use Rattle.std.specs.Prelude.{◌≡◌, ℕ, List, [], ◌∷◌, Option, None, Some, map, refl, cond, true, false, Bool, is_some}
use Rattle.std.specs.Option.{option_map, option_copied}
use Rattle.std.specs.Ordering.{nat_cmp, is_eq, eq_by_cmp}
use Rattle.std.specs.declared.cmp.Ordering.{Ordering}
use Rattle.std.specs.Cmp.{eq_by_cmp_equiv}
use Rattle.std.specs.Cmp.Lexicographic.{slice_cmp, nat_list_cmp_total, texts_ties}
use Rattle.std.specs.FinMap.{from_entries, insert, find, get, get-from_entries, get-insert, same_map, slice_cmp-IsAntisymmetric, nat_cmp-IsAntisymmetric}
use Rattle.std.specs.Map.{lookup}
use Rattle.std.specs.Str.{bytes_eq}
use Rattle.std.proofs.Common.{sym, ◌∙◌, ap, subst, Bor}

pub copied_meaning : {X Y : Type 0} (f : X → Y) (o : Option (Bor X)) → option_map (λ r. f r.now) o ≡ option_map f (option_copied o)
copied_meaning f None = refl
copied_meaning f (Some r) = refl

abbrev pub bytes_cmp : List ℕ → List ℕ → Ordering
bytes_cmp = slice_cmp nat_cmp

module _ {K X Y : Type 0} (key : K → List ℕ) (f : X → Y) where
  abbrev pub both : List (K × X) → List (List ℕ × Y)
  both es = map (λ e. (key e.0, f e.1)) es

  abbrev pub at : List ℕ → List (K × X) → Option X
  at q es = lookup (λ k. is_eq (bytes_cmp q (key k))) es

  find_both : (es : List (K × X)) (q : List ℕ) → find bytes_cmp q (both es) ≡ option_map f (at q es)
  find_both [] q = refl
  find_both (e ∷ es) q =
      elim (is_eq (bytes_cmp q (key e.0))) as (λ b. cond b (Some (f e.1)) (find bytes_cmp q (both es)) ≡ option_map f (cond b (Some e.1) (at q es)))
      [ true ↦ refl | false ↦ find_both es q ]

  pub get_both : (es : List (K × X)) (q : List ℕ) → get (from_entries {R = bytes_cmp} (both es)) q ≡ option_map f (at q es)
  get_both es q = get-from_entries nat_list_cmp_total (both es) q ∙ find_both es q

  mapped_cond : (b : Bool) (x : X) (o : Option X) → option_map f (cond b (Some x) o) ≡ cond b (Some (f x)) (option_map f o)
  mapped_cond true x o = refl
  mapped_cond false x o = refl

  pub insert_both : (es fs : List (K × X)) (k : K) (x : X) (as_key : List ℕ → K) → ((bs : List ℕ) → key (as_key bs) ≡ bs)
      → ((q : K) → at (key q) fs ≡ cond (is_eq (bytes_cmp (key k) (key q))) (Some x) (at (key q) es))
      → from_entries {R = bytes_cmp} (both fs) ≡ insert (from_entries (both es)) (key k) (f x)
  insert_both es fs k x as_key is h =
      let step : (bs : List ℕ) → at bs fs ≡ cond (is_eq (bytes_cmp (key k) bs)) (Some x) (at bs es) = λ bs. subst (λ w. at w fs ≡ cond (is_eq (bytes_cmp (key k) w)) (Some x) (at w es)) (is bs) (h (as_key bs)) in
      same_map nat_list_cmp_total (slice_cmp-IsAntisymmetric nat_cmp-IsAntisymmetric) _ _ (λ q.
      get_both fs q ∙ ap (option_map f) (step q) ∙ mapped_cond (is_eq (bytes_cmp (key k) q)) x (at q es)
      ∙ ap (λ b. cond b (Some (f x)) (option_map f (at q es))) ((eq_by_cmp_equiv nat_list_cmp_total).symm (key k) q)
      ∙ sym (get-insert nat_list_cmp_total (from_entries (both es)) (key k) (f x) q ∙ ap (cond (eq_by_cmp bytes_cmp q (key k)) (Some (f x))) (get_both es q)))

-- a hash map by texts
module _ {X Y : Type 0} (f : X → Y) where
  abbrev pub pairs : List (Bor (List ℕ) × X) → List (List ℕ × Y)
  pairs es = both (λ k. k.now) f es

  abbrev pub in_hash : List ℕ → List (Bor (List ℕ) × X) → Option X
  in_hash q es = lookup (λ k. bytes_eq q k.now) es

  same_test : (es : List (Bor (List ℕ) × X)) (q : List ℕ) → in_hash q es ≡ at (λ k. k.now) f q es
  same_test [] q = refl
  same_test (e ∷ es) q = ap (λ b. cond b (Some e.1) (in_hash q es)) (texts_ties q e.0.now) ∙ ap (cond (is_eq (bytes_cmp q e.0.now)) (Some e.1)) (same_test es q)

  pub get_hash : (es : List (Bor (List ℕ) × X)) (q : List ℕ) → get (from_entries {R = bytes_cmp} (pairs es)) q ≡ option_map f (in_hash q es)
  get_hash es q = get_both (λ k. k.now) f es q ∙ ap (option_map f) (sym (same_test es q))

  pub insert_hash : (es fs : List (Bor (List ℕ) × X)) (k : Bor (List ℕ)) (x : X)
      → ((q : Bor (List ℕ)) → in_hash q.now fs ≡ cond (bytes_eq k.now q.now) (Some x) (in_hash q.now es))
      → from_entries {R = bytes_cmp} (pairs fs) ≡ insert (from_entries (pairs es)) k.now (f x)
  insert_hash es fs k x h =
      insert_both (λ k. k.now) f es fs k x (λ bs. record { ref_ptr = (0, 0); now = bs }) (λ bs. refl)
      (λ q. sym (same_test fs q.now) ∙ h q ∙ ap (λ b. cond b (Some x) (in_hash q.now es)) (texts_ties k.now q.now) ∙ ap (cond (is_eq (bytes_cmp k.now q.now)) (Some x)) (same_test es q.now))

  pub same_hash : (es fs : List (Bor (List ℕ) × X)) → ((q : Bor (List ℕ)) → in_hash q.now fs ≡ in_hash q.now es) → from_entries {R = bytes_cmp} (pairs fs) ≡ from_entries (pairs es)
  same_hash es fs h =
      same_map nat_list_cmp_total (slice_cmp-IsAntisymmetric nat_cmp-IsAntisymmetric) _ _ (λ q. get_hash fs q ∙ ap (option_map f) (h (record { ref_ptr = (0, 0); now = q })) ∙ sym (get_hash es q))

pub some_mapped : {X Y : Type 0} (f : X → Y) (o : Option X) → is_some (option_map f o) ≡ is_some o
some_mapped f None = refl
some_mapped f (Some x) = refl
