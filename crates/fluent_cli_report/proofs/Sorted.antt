-- What is in order and keeps the order of what ties, is the sorted list.
use Rattle.std.proofs.Common.{◌≡◌, ℕ, zero, suc, ◌<◌, ◌≤◌, Bool, true, false, not, cond, List, [], ◌∷◌, map, length, get_or, filter, refl, sym, ap, subst, ◌∙◌, inl, inr, suc-le-suc, zero-le}
use Rattle.std.proofs.lemmas.Bool.{cond-true, cond-false, cases_Bool, and_parts, and_from, not-true, both_ways}
use Rattle.std.proofs.lemmas.List.Sorted.{sorted_far}
use Rattle.std.specs.Cmp.{IsStrictWeakOrder}
use Rattle.std.specs.List.Sorted.{ties, IsSortedBy, IsStableBy}
use Rattle.fluent_cli_report.specs.Sorting.{put_by, sorted_by}

module _ {X : Type 0} (lt : X → X → Bool) where
  put_past : (x y : X) (ys : List X) → lt y x ≡ true → put_by lt x (y ∷ ys) ≡ y ∷ put_by lt x ys
  put_past x y ys h = cond-true _ _ _ h

  put_here : (x y : X) (ys : List X) → lt y x ≡ false → put_by lt x (y ∷ ys) ≡ x ∷ (y ∷ ys)
  put_here x y ys h = cond-false _ _ _ h

  ties_from : (x y : X) → lt x y ≡ false → lt y x ≡ false → ties lt x y ≡ true
  ties_from x y p q = and_from (not (lt x y)) (not (lt y x)) (ap not p) (ap not q)

  ties_parts : (x y : X) → ties lt x y ≡ true → (lt x y ≡ false) × (lt y x ≡ false)
  ties_parts x y h =
      let parts = and_parts (not (lt x y)) (not (lt y x)) h in (not-true (lt x y) parts.0, not-true (lt y x) parts.1)

  -- none of ys comes before x
  abbrev NoneBefore : X → List X → Type 0
  NoneBefore x [] = Unit {0}
  NoneBefore x (y ∷ ys) = (lt y x ≡ false) × NoneBefore x ys

  abbrev Rises : List X → Type 0
  Rises [] = Unit {0}
  Rises (y ∷ ys) = NoneBefore y ys × Rises ys

  none_at : (x : X) (ys : List X) → ((j : ℕ) (d : X) → j < length ys → lt (get_or ys j d) x ≡ false) → NoneBefore x ys
  none_at x [] h = tt
  none_at x (y ∷ ys) h = (h zero y (suc-le-suc zero-le), none_at x ys (λ j d l. h (suc j) d (suc-le-suc l)))

  rises_far : (ys : List X) → ((i j : ℕ) (d : X) → i ≤ j → j < length ys → lt (get_or ys j d) (get_or ys i d) ≡ false) → Rises ys
  rises_far [] h = tt
  rises_far (y ∷ ys) h = (
    none_at y ys (λ j d l. h zero (suc j) d zero-le (suc-le-suc l)),
    rises_far ys (λ i j d le l. h (suc i) (suc j) d (suc-le-suc le) (suc-le-suc l)),
  )

kept : {X : Type 0} (p : X → Bool) (y : X) (ys : List X) → p y ≡ true → filter p (y ∷ ys) ≡ y ∷ filter p ys
kept p y ys h = cond-true _ _ _ h

dropped : {X : Type 0} (p : X → Bool) (y : X) (ys : List X) → p y ≡ false → filter p (y ∷ ys) ≡ filter p ys
dropped p y ys h = cond-false _ _ _ h

module _ {X : Type 0} (lt : X → X → Bool) (o : IsStrictWeakOrder lt) where
  not_before_itself : (x : X) → lt x x ≡ false
  not_before_itself x = elim (cases_Bool (lt x x)) [ inl before ↦ o.one_way x x before | inr other ↦ other ]

  none_through : (x y : X) (ys : List X) → lt y x ≡ false → NoneBefore lt y ys → NoneBefore lt x ys
  none_through x y [] h n = tt
  none_through x y (z ∷ zs) h n = (o.chain z y x n.0 h, none_through x y zs h n.1)

  none_put : (x z : X) (ys : List X) → lt z x ≡ false → NoneBefore lt x ys → NoneBefore lt x (put_by lt z ys)
  none_put x z [] h n = (h, tt)
  none_put x z (y ∷ ys) h n =
      elim (cases_Bool (lt y z)) [
        | inl past ↦ subst (λ l. NoneBefore lt x l) (sym (put_past lt z y ys past)) (n.0, none_put x z ys h n.1)
        | inr here ↦ subst (λ l. NoneBefore lt x l) (sym (put_here lt z y ys here)) (h, n)
      ]

  rises_put : (x : X) (ys : List X) → Rises lt ys → Rises lt (put_by lt x ys)
  rises_put x [] r = (tt, tt)
  rises_put x (y ∷ ys) r =
      elim (cases_Bool (lt y x)) [
        | inl past ↦ subst (λ l. Rises lt l) (sym (put_past lt x y ys past)) (none_put y x ys (o.one_way y x past) r.0, rises_put x ys r.1)
        | inr here ↦ subst (λ l. Rises lt l) (sym (put_here lt x y ys here)) ((here, none_through x y ys here r.0), r)
      ]

  rises_sorted : (xs : List X) → Rises lt (sorted_by lt xs)
  rises_sorted [] = tt
  rises_sorted (x ∷ xs) = rises_put x (sorted_by lt xs) (rises_sorted xs)

  filter_put : (z x : X) (ys : List X) → filter (ties lt z) (put_by lt x ys) ≡ filter (ties lt z) (x ∷ ys)
  filter_put z x [] = refl
  filter_put z x (y ∷ ys) =
      let p = ties lt z in
      elim (cases_Bool (lt y x)) [
        | inr here ↦ ap (filter p) (put_here lt x y ys here)
        | inl past ↦
            ap (filter p) (put_past lt x y ys past)
            ∙ elim (cases_Bool (p y)) [
              | inr without ↦
                  dropped p y (put_by lt x ys) without ∙ filter_put z x ys ∙ ap (λ l. cond (p x) (x ∷ l) l) (sym (dropped p y ys without))
              | inl with ↦
                  elim (cases_Bool (p x)) [
                    | inl both ↦ absurd (both_ways (lt y x) (o.chain y z x (ties_parts lt z y with).1 (ties_parts lt z x both).0) past)
                    | inr only ↦
                        kept p y (put_by lt x ys) with ∙ ap (λ l. y ∷ l) (filter_put z x ys ∙ dropped p x ys only)
                        ∙ sym (dropped p x (y ∷ ys) only ∙ kept p y ys with)
                  ]
            ]
      ]

  filter_sorted : (z : X) (xs : List X) → filter (ties lt z) (sorted_by lt xs) ≡ filter (ties lt z) xs
  filter_sorted z [] = refl
  filter_sorted z (x ∷ xs) = filter_put z x (sorted_by lt xs) ∙ ap (λ l. cond (ties lt z x) (x ∷ l) l) (filter_sorted z xs)

  -- what ties with x is among what n doesn't come after
  not_after : (n x : X) (ys : List X) (w : X) (ws : List X) → NoneBefore lt n ys → filter (ties lt x) ys ≡ w ∷ ws → lt x n ≡ false
  not_after n x [] w ws h e = cc
  not_after n x (y ∷ ys) w ws h e =
      elim (cases_Bool (ties lt x y)) [
        | inl with ↦ o.chain x y n (ties_parts lt x y with).0 h.0
        | inr without ↦ not_after n x ys w ws h.1 (sym (dropped (ties lt x) y ys without) ∙ e)
      ]

  same_lists : (ys zs : List X) → Rises lt ys → Rises lt zs → ((x : X) → filter (ties lt x) ys ≡ filter (ties lt x) zs) → ys ≡ zs
  same_lists [] [] left right same = refl
  same_lists [] (z ∷ zs) left right same =
      let itself = not_before_itself z in
      let clash = same z ∙ kept (ties lt z) z zs (ties_from lt z z itself itself) in cc
  same_lists (y ∷ ys) [] left right same =
      let itself = not_before_itself y in
      let clash = sym (same y) ∙ kept (ties lt y) y ys (ties_from lt y y itself itself) in cc
  same_lists (y ∷ ys) (z ∷ zs) left right same =
      let y_itself = not_before_itself y in
      let z_itself = not_before_itself z in
      let at_y = kept (ties lt y) y ys (ties_from lt y y y_itself y_itself) in
      let at_z = kept (ties lt z) z zs (ties_from lt z z z_itself z_itself) in
      let up = not_after z y (z ∷ zs) y (filter (ties lt y) ys) (z_itself, right.0) (sym (same y) ∙ at_y) in
      let down = not_after y z (y ∷ ys) z (filter (ties lt z) zs) (y_itself, left.0) (same z ∙ at_z) in
      let heads = sym at_y ∙ same y ∙ kept (ties lt y) z zs (ties_from lt y z up down) in
      let head : y ≡ z = cc in
      let tails : (x : X) → filter (ties lt x) ys ≡ filter (ties lt x) zs =
      λ x. elim (cases_Bool (ties lt x y)) [
        | inl with ↦
            let both = sym (kept (ties lt x) y ys with) ∙ same x ∙ kept (ties lt x) z zs (ap (ties lt x) (sym head) ∙ with) in cc
        | inr without ↦
            sym (dropped (ties lt x) y ys without) ∙ same x ∙ dropped (ties lt x) z zs (ap (ties lt x) (sym head) ∙ without)
      ] in
      ap (λ w. w ∷ ys) head ∙ ap (λ l. z ∷ l) (same_lists ys zs left.1 right.1 tails)

  pub is_sorted_by : (xs ys : List X) → IsSortedBy lt ys → IsStableBy lt xs ys → ys ≡ sorted_by lt xs
  is_sorted_by xs ys up stable =
      same_lists ys (sorted_by lt xs) (rises_far lt ys (sorted_far lt o ys up)) (rises_sorted xs)
      (λ x. stable x ∙ sym (filter_sorted x xs))

module _ {X Y : Type 0} (f : X → Y) (before : Y → Y → Bool) where
  map_put : (x : X) (ys : List X) → map f (put_by (λ a b. before (f a) (f b)) x ys) ≡ put_by before (f x) (map f ys)
  map_put x [] = refl
  map_put x (y ∷ ys) =
      elim (cases_Bool (before (f y) (f x))) [
        | inl past ↦
            ap (map f) (put_past (λ a b. before (f a) (f b)) x y ys past) ∙ ap (λ l. f y ∷ l) (map_put x ys)
            ∙ sym (put_past before (f x) (f y) (map f ys) past)
        | inr here ↦
            ap (map f) (put_here (λ a b. before (f a) (f b)) x y ys here) ∙ sym (put_here before (f x) (f y) (map f ys) here)
      ]

  pub map_sorted : (xs : List X) → map f (sorted_by (λ a b. before (f a) (f b)) xs) ≡ sorted_by before (map f xs)
  map_sorted [] = refl
  map_sorted (x ∷ xs) = map_put x (sorted_by (λ a b. before (f a) (f b)) xs) ∙ ap (put_by before (f x)) (map_sorted xs)
