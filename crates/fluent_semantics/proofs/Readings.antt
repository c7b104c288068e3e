-- The number that a text is by computation is the one that it is by definition.
use Rattle.std.proofs.Common.{◌≡◌, ℕ, ℤ, ◌==◌, ◌<◌, ◌↔◌, ◌&&◌, [], ◌∷◌, ◌++◌, length, Bool, true, false, Option, Some, None, if◌then◌else◌, refl, sym, ap, subst, ◌∙◌, arith, inl, inr, ltb-true, leb-true, lt-ltb, le-leb, unwrap_or}
use Rattle.std.specs.Char.{digit_value}
use Rattle.std.specs.Str.Parse.{AllDigits, starts_with_minus, without_leading_sign}
use Rattle.fluent_ast.specs.Tree.{Text}
use Rattle.fluent_intl.specs.Decimal.{signed, Reads, ReadsUnsigned}
use Rattle.fluent_semantics.specs.Number.{all_digits, before_point, after_point, read_digits, with_sign, read_number}

and_left : (a b : Bool) → (a && b) ≡ true → a ≡ true
and_left true b h = refl
and_left false b h = absurd cc

and_right : (a b : Bool) → (a && b) ≡ true → b ≡ true
and_right true b h = h
and_right false b h = absurd cc

and_both : (a b : Bool) → a ≡ true → b ≡ true → (a && b) ≡ true
and_both true b h j = j
and_both false b h j = absurd cc

if_some : {A : Type 0} (c : Bool) (x r : A) → (if c then Some x else None) ≡ Some r → (c ≡ true) × (x ≡ r)
if_some true x r h = (refl, ap (λ o. unwrap_or o x) h)
if_some false x r h = absurd cc

are_digits : (t : Text) → all_digits t ≡ true → AllDigits 10 t
are_digits [] h = tt
are_digits (b ∷ t) h = (ltb-true _ _ (and_left _ _ h), are_digits t (and_right _ _ h))

digits_are : (t : Text) → AllDigits 10 t → all_digits t ≡ true
digits_are [] h = refl
digits_are (b ∷ t) h = and_both _ _ (lt-ltb _ _ h.0) (digits_are t h.1)

-- ---- the point

abbrev joined : Text → Option Text → Text
joined whole None = whole
joined whole (Some part) = whole ++ 46 ∷ part

joined_cons : (b : ℕ) (whole : Text) (part : Option Text) → joined (b ∷ whole) part ≡ b ∷ joined whole part
joined_cons b whole None = refl
joined_cons b whole (Some part) = refl

point_or_not : (b : ℕ) (t : Text) → joined (before_point t) (after_point t) ≡ t → (c : Bool) → (b == 46) ≡ c → joined (if c then [] else b ∷ before_point t) (if c then Some t else after_point t) ≡ b ∷ t
point_or_not b t h true e = ap (λ x. x ∷ t) (let same : b ≡ 46 = grind arith in sym same)
point_or_not b t h false e = joined_cons b (before_point t) (after_point t) ∙ ap (λ x. b ∷ x) h

cut_joined : (t : Text) → joined (before_point t) (after_point t) ≡ t
cut_joined [] = refl
cut_joined (b ∷ t) = point_or_not b t (cut_joined t) (b == 46) refl

no_digit : (b : ℕ) → digit_value b < 10 → (c : Bool) → (b == 46) ≡ c → c ≡ false
no_digit b h true e = absurd (let same : b ≡ 46 = grind arith in let less : digit_value 46 < 10 = subst (λ x. digit_value x < 10) same h in omega (arith, less))
no_digit b h false e = refl

digits_before : (t : Text) → AllDigits 10 t → (before_point t ≡ t) × (after_point t ≡ None)
digits_before [] h = (refl, refl)
digits_before (b ∷ t) h =
    let digit = no_digit b h.0 (b == 46) refl in
    let rest = digits_before t h.1 in (
      ap (λ c. if c then [] else b ∷ before_point t) digit ∙ ap (λ x. b ∷ x) rest.0,
      ap (λ c. if c then Some t else after_point t) digit ∙ rest.1,
    )

point_between : (before after : Text) → AllDigits 10 before → (before_point (before ++ 46 ∷ after) ≡ before) × (after_point (before ++ 46 ∷ after) ≡ Some after)
point_between [] after h = (refl, refl)
point_between (b ∷ t) after h =
    let digit = no_digit b h.0 (b == 46) refl in
    let rest = point_between t after h.1 in (
      ap (λ c. if c then [] else b ∷ before_point (t ++ 46 ∷ after)) digit ∙ ap (λ x. b ∷ x) rest.0,
      ap (λ c. if c then Some (t ++ 46 ∷ after) else after_point (t ++ 46 ∷ after)) digit ∙ rest.1,
    )

-- ---- without a sign

digits_read : (whole : Text) (part : Option Text) (n : ℕ) (places : Option ℕ) → read_digits whole part ≡ Some (n, places) → ReadsUnsigned (joined whole part) n places
digits_read whole None n places h =
    let c = if_some _ _ _ h in
    let all = and_left _ _ c.0 in
    inl (are_digits whole (and_left _ _ all), ltb-true _ _ (and_right _ _ all), ltb-true _ _ (and_right _ _ c.0), sym (ap (λ r. r.0) c.1), sym (ap (λ r. r.1) c.1))
digits_read whole (Some part) n places h =
    let c = if_some _ _ _ h in
    let d = and_left _ _ c.0 in
    let e = and_left _ _ d in
    let f = and_left _ _ e in
    inr (whole, part, refl, are_digits whole (and_left _ _ f), are_digits part (and_right _ _ f), ltb-true _ _ (and_right _ _ e), ltb-true _ _ (and_right _ _ d), leb-true _ _ (and_right _ _ c.0), sym (ap (λ r. r.0) c.1), sym (ap (λ r. r.1) c.1))

if_true : {A : Type 0} (c : Bool) (x : A) → c ≡ true → (if c then Some x else None) ≡ Some x
if_true c x h = ap (λ b. if b then Some x else None) h

reads_digits : (u : Text) (n : ℕ) (places : Option ℕ) → ReadsUnsigned u n places → read_digits (before_point u) (after_point u) ≡ Some (n, places)
reads_digits u n places (inl h) =
    let cut = digits_before u h.0 in
    ap (λ w. read_digits w (after_point u)) cut.0 ∙ ap (read_digits u) cut.1
    ∙ if_true _ _ (and_both _ _ (and_both _ _ (digits_are u h.0) (lt-ltb _ _ h.1)) (lt-ltb _ _ h.2))
    ∙ ap (λ x. Some (x, None)) (sym h.3) ∙ ap (λ p. Some (n, p)) (sym h.4)
reads_digits u n places (inr h) =
    let whole = h.0 in
    let part = h.1 in
    let cut = point_between whole part h.3 in
    ap (λ v. read_digits (before_point v) (after_point v)) h.2
    ∙ ap (λ w. read_digits w (after_point (whole ++ 46 ∷ part))) cut.0 ∙ ap (read_digits whole) cut.1
    ∙ if_true _ _ (and_both _ _ (and_both _ _ (and_both _ _ (and_both _ _ (digits_are whole h.3) (digits_are part h.4)) (lt-ltb _ _ h.5)) (lt-ltb _ _ h.6)) (le-leb _ _ h.7))
    ∙ ap (λ x. Some (x, Some (length part))) (sym h.8) ∙ ap (λ p. Some (n, p)) (sym h.9)

-- ---- with a sign

sign_read : (minus : Bool) (o : Option (ℕ × Option ℕ)) (z : ℤ) (places : Option ℕ) → with_sign minus o ≡ Some (z, places) → (n : ℕ) × (o ≡ Some (n, places)) × (z ≡ signed minus n)
sign_read minus None z places h = absurd cc
sign_read minus (Some r) z places h =
    let same = ap (λ o. unwrap_or o (z, places)) h in
    (r.0, ap (λ p. Some (r.0, p)) (ap (λ q. q.1) same), sym (ap (λ q. q.0) same))

pub reads_as_defined : (t : Text) (z : ℤ) (places : Option ℕ) → read_number t ≡ Some (z, places) ↔ Reads t z places
reads_as_defined t z places =
    let u = without_leading_sign t in (
      λ h. let s = sign_read (starts_with_minus t) (read_digits (before_point u) (after_point u)) z places h in
          (s.0, subst (λ v. ReadsUnsigned v s.0 places) (cut_joined u) (digits_read (before_point u) (after_point u) s.0 places s.1), s.2),
      λ h. ap (with_sign (starts_with_minus t)) (reads_digits u h.0 places h.1) ∙ ap (λ y. Some (y, places)) (sym h.2),
    )
