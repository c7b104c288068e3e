-- What a rule reads of a text whatever stands after it.
use Rattle.std.proofs.Common.{◌≡◌, ◌==◌, ℕ, zero, suc, ◌-◌, ◌<◌, ◌≤◌, Bool, true, false, List, [], ◌∷◌, ◌++◌, length, Some, None, if◌then◌else◌, refl, sym, ap, ◌∙◌, subst, append_assoc, nat_lt, arith, length-append, eqb-true}
use Rattle.std.proofs.lemmas.Bool.Decides.{nat_tests}
use Rattle.std.proofs.lemmas.List.{append_cancel_right}
use Rattle.fluent_text.specs.Parser.{Read, Parser, ◌>>=◌, ◌>>◌, ◌<$>◌, ◌<|>◌, and_then, otherwise, pure, many_from, turn, go_on, byte}
use Rattle.fluent_syntax.specs.Expressions.{provided}
use Rattle.fluent_syntax.specs.Facts.Prefixes.{TakesTo, Takes, takes-many, takes-bind, takes-pure, takes-map, takes-nothing, takes-byte, takes-or, takes-all}
use Rattle.fluent_text.specs.Facts.Turns.{more as a_turn}
use Rattle.fluent_grammar_laws.proofs.Near.{closes, shows, Alike2, after_prefix, NearTo, Near, Shuts, is_read, none_left}

-- ---- the texts that may stand after

-- one that does, and all that may
pub record After : Type 1 where
  pub may : List ℕ → Type 0
  pub here : List ℕ
  pub holds : may here

abbrev pub Anywhere : List ℕ → Type 0
Anywhere v = Unit {0}

pub left : {A : Type 0} → Read A → List ℕ
left None = []
left (Some q) = q.1

pub value_or : {A : Type 0} → A → Read A → A
value_or y None = y
value_or y (Some q) = q.0

pub lefts : {A : Type 0} (x y : A) (s t : List ℕ) → ◌≡◌ {A = Read A} (Some (x, s)) (Some (y, t)) → s ≡ t
unfolding left
lefts x y s t e = ap left e

pub values : {A : Type 0} (x y : A) (s t : List ℕ) → ◌≡◌ {A = Read A} (Some (x, s)) (Some (y, t)) → x ≡ y
unfolding value_or
values x y s t e = ap (value_or x) e

pub both : {A : Type 0} (x y : A) (s t : List ℕ) → x ≡ y → s ≡ t → ◌≡◌ {A = Read A} (Some (x, s)) (Some (y, t))
both x y s t e f = ap (λ a. Some (a, s)) e ∙ ap (λ r. Some (y, r)) f

-- where what was read passes a test
pub kept : {B : Type 0} (b : Bool) (y : B) (q : List ℕ) (z : B × List ℕ) → (provided b >> pure y) q ≡ Some z → (b ≡ true) × (◌≡◌ {A = Read B} (Some (y, q)) (Some z))
kept true y q z e = (refl, e)
kept false y q z e = absurd (is_read z (sym e))

-- rules of which no text has both
abbrev pub Clash : {A B : Type 0} → (List ℕ → Type 0) → Parser A → Parser B → Type 0
Clash {A = A} {B = B} ends p q = (t : List ℕ) (y : A × List ℕ) (x : B) (r : List ℕ) → p t ≡ Some y → q t ≡ Some (x, r) → ends r → ⊥

pub unread : {A : Type 0} (r : Read A) → ((y : A × List ℕ) → r ≡ Some y → ⊥) → r ≡ None
unread None h = refl
unread (Some y) h = absurd (h y refl)

pub never : {A : Type 0} (p : Parser A) (t : List ℕ) → ((y : A × List ℕ) → p t ≡ Some y → ⊥) → p t ≡ None
never p t h = unread (p t) h

pub taken_one : (c : ℕ) → (0 == c) ≡ false → (t : List ℕ) (r : List ℕ) → byte c t ≡ Some (tt, r) → (t ≡ c ∷ r)
unfolding byte
taken_one c some [] r e = absurd (is_read (tt, r) (sym e ∙ ap (λ b. if b then Some (tt {0}, []) else None) some))
taken_one c some (a ∷ t) r e = by (a == c) refl e
  where
    by : (b : Bool) → (a == c) ≡ b → ◌≡◌ {A = Read (Unit {0})} (if b then Some (tt, t) else None) (Some (tt, r)) → a ∷ t ≡ c ∷ r
    by true g e = ap (λ x. x ∷ t) (eqb-true a c g) ∙ ap (λ x. c ∷ x) (lefts tt tt t r e)
    by false g e = absurd (is_read (tt, r) (sym e))

byte_at_prefix : (c : ℕ) (t : List ℕ) → byte c (c ∷ t) ≡ Some (tt, t)
unfolding byte
byte_at_prefix c t = let e : (c == c) ≡ true = grind (arith, nat_tests) in rw e refl

near_takes : {A : Type 0} (p : Parser A) (s : List ℕ) (r : Read A) → NearTo p s r → TakesTo s r
near_takes p s None h = tt
near_takes p s (Some q) (u, e, more) = (u, e)

pub takes-provided : {A : Type 0} (b : Bool) (p : Parser A) → Takes p → Takes (provided b >> p)
takes-provided true p h = record { prefix = λ s. h.prefix s }
takes-provided false p h = record { prefix = λ s. tt }

module _ (T : After) where
  -- ---- texts after which no rule looks

  -- whichever of the texts follows, the same shows
  abbrev pub Closed : List ℕ → Type 0
  Closed v = (w w' : List ℕ) → T.may w → T.may w' → Alike2 (v ++ w) (v ++ w')

  pub closed_after : (s u v : List ℕ) → s ≡ u ++ v → Closed v → Closed s
  closed_after s u v e h = λ w w' i i'.
      ap (λ t. shows (t ++ w)) e
      ∙ (ap shows (append_assoc u v w) ∙ (after_prefix u (v ++ w) (v ++ w') (h w w' i i') ∙ (ap shows (sym (append_assoc u v w')) ∙ ap (λ t. shows (t ++ w')) (sym e))))

  pub closed_one : (c : ℕ) (s : List ℕ) → closes c ≡ true → Closed (c ∷ s)
  closed_one c s e = λ w w' i i'. rw e refl

  -- the same prefix before the same text
  pub cut : (s u v : List ℕ) → s ++ T.here ≡ u ++ (v ++ T.here) → s ≡ u ++ v
  cut s u v e = append_cancel_right s (u ++ v) T.here (e ∙ sym (append_assoc u v T.here))

  -- ---- rules

  -- from s the rule reads x and leaves v, whatever follows
  abbrev pub Known : {A : Type 0} → Parser A → List ℕ → A → List ℕ → Type 0
  Known p s x v = (w : List ℕ) → T.may w → p (s ++ w) ≡ Some (x, v ++ w)

  -- it reads nothing there, whatever follows
  abbrev pub Stops : {A : Type 0} → Parser A → List ℕ → Type 0
  Stops p v = (w : List ℕ) → T.may w → p (v ++ w) ≡ None

  -- where a rule leaves such a text, it leaves it whatever follows
  pub record Settled {A : Type 0} (at : List ℕ → Type 0) (p : Parser A) : Type 0 where
    pub settled : (s : List ℕ) (x : A) (v : List ℕ) → at v → p (s ++ T.here) ≡ Some (x, v ++ T.here) → Known p s x v

  pub weaker : {A : Type 0} (at of : List ℕ → Type 0) (p : Parser A) → ((v : List ℕ) → of v → at v) → Settled at p → Settled of p
  weaker at of p f h = record { settled = λ s x v here e. h.settled s x v (f v here) e }

  known_near : {A : Type 0} (p : Parser A) (s : List ℕ) (x : A) (v : List ℕ) → Closed v → NearTo p (s ++ T.here) (Some (x, v ++ T.here)) → Known p s x v
  known_near p s x v h (u, g, more) = λ w' i. ap (λ t. p (t ++ w')) (cut s u v g) ∙ (ap p (append_assoc u v w') ∙ more (v ++ w') (h w' T.here i T.holds))

  pub settled-near : {A : Type 0} (p : Parser A) → Near p → Settled Closed p
  settled-near p h = record { settled = λ s x v here e. known_near p s x v here (subst (NearTo p (s ++ T.here)) e (h.near (s ++ T.here))) }

  -- ---- results

  -- ---- rules one after the other

  bound : {A B : Type 0} (at of : List ℕ → Type 0) (p : Parser A) (f : A → Parser B) → Settled at p → ((a : A) → Settled of (f a)) → ((a : A) → Takes (f a))
      → ((a : A) (x : B) (v1 u v : List ℕ) → v1 ≡ u ++ v → Known (f a) v1 x v → of v → at v1)
      → (s : List ℕ) (x : B) (v : List ℕ) → of v → (r : Read A) → p (s ++ T.here) ≡ r → and_then r f ≡ Some (x, v ++ T.here) → Known (p >>= f) s x v
  bound at of p f h k t link s x v here None e g = absurd (is_read (x, v ++ T.here) (sym g))
  bound at of p f h k t link s x v here (Some q) e g =
      let fr : (u : List ℕ) × (q.1 ≡ u ++ (v ++ T.here)) = subst (TakesTo q.1) g ((t q.0).prefix q.1) in
      let v1 = fr.0 ++ v in
      let z : q.1 ≡ v1 ++ T.here = fr.1 ∙ sym (append_assoc fr.0 v T.here) in
      let second : Known (f q.0) v1 x v = (k q.0).settled v1 x v here (ap (f q.0) (sym z) ∙ g) in
      let prefix : Known p s q.0 v1 = h.settled s q.0 v1 (link q.0 x v1 fr.0 v refl second here) (e ∙ ap (λ r. Some (q.0, r)) z) in
      λ w' i. ap (λ r. and_then r f) (prefix w' i) ∙ second w' i

  pub settled-bind : {A B : Type 0} (at of : List ℕ → Type 0) (p : Parser A) (f : A → Parser B) → Settled at p → ((a : A) → Settled of (f a)) → ((a : A) → Takes (f a))
      → ((a : A) (x : B) (v1 u v : List ℕ) → v1 ≡ u ++ v → Known (f a) v1 x v → of v → at v1) → Settled of (p >>= f)
  settled-bind at of p f h k t link = record { settled = λ s x v here e. bound at of p f h k t link s x v here (p (s ++ T.here)) refl e }

  -- the same, where the first needs what the second leaves to be closed alone
  pub settled-then : {A B : Type 0} (of : List ℕ → Type 0) (p : Parser A) (f : A → Parser B) → Settled Closed p → ((a : A) → Settled of (f a)) → ((a : A) → Takes (f a)) → ((v : List ℕ) → of v → Closed v) → Settled of (p >>= f)
  settled-then of p f h k t c = settled-bind Closed of p f h k t (λ a x v1 u v e known here. closed_after v1 u v e (c v here))

  pub settled-pure : {A : Type 0} (at : List ℕ → Type 0) (x : A) → Settled at (pure x)
  settled-pure at x = record { settled = λ s y v here e. λ w' i. both x y (s ++ w') (v ++ w') (values x y (s ++ T.here) (v ++ T.here) e) (ap (λ t. t ++ w') (append_cancel_right s v T.here (lefts x y (s ++ T.here) (v ++ T.here) e))) }

  mapped : {A B : Type 0} (at : List ℕ → Type 0) (f : A → B) (p : Parser A) → Settled at p → (s : List ℕ) (y : B) (v : List ℕ) → at v → (r : Read A) → p (s ++ T.here) ≡ r → and_then r (λ x. pure (f x)) ≡ Some (y, v ++ T.here) → Known (f <$> p) s y v
  mapped at f p h s y v here None e g = absurd (is_read (y, v ++ T.here) (sym g))
  mapped at f p h s y v here (Some q) e g =
      let z : q.1 ≡ v ++ T.here = lefts (f q.0) y q.1 (v ++ T.here) g in
      let known : Known p s q.0 v = h.settled s q.0 v here (e ∙ ap (λ r. Some (q.0, r)) z) in
      λ w' i. ap (λ r. and_then r (λ x. pure (f x))) (known w' i) ∙ ap (λ b. Some (b, v ++ w')) (values (f q.0) y q.1 (v ++ T.here) g)

  pub settled-map : {A B : Type 0} (at : List ℕ → Type 0) (f : A → B) (p : Parser A) → Settled at p → Settled at (f <$> p)
  settled-map at f p h = record { settled = λ s y v here e. mapped at f p h s y v here (p (s ++ T.here)) refl e }

  sifted : {A B : Type 0} (at : List ℕ → Type 0) (b : A → Bool) (f : A → B) (p : Parser A) → Settled at p → (s : List ℕ) (y : B) (v : List ℕ) → at v → (r : Read A) → p (s ++ T.here) ≡ r → and_then r (λ x. provided (b x) >> pure (f x)) ≡ Some (y, v ++ T.here)
      → Known (p >>= (λ x. provided (b x) >> pure (f x))) s y v
  sifted at b f p h s y v here None e g = absurd (is_read (y, v ++ T.here) (sym g))
  sifted at b f p h s y v here (Some q) e g =
      let k = kept (b q.0) (f q.0) q.1 (y, v ++ T.here) g in
      let z : q.1 ≡ v ++ T.here = lefts (f q.0) y q.1 (v ++ T.here) k.1 in
      let known : Known p s q.0 v = h.settled s q.0 v here (e ∙ ap (λ r. Some (q.0, r)) z) in
      λ w' i. ap (λ r. and_then r (λ x. provided (b x) >> pure (f x))) (known w' i)
      ∙ (ap (λ c. (provided c >> pure (f q.0)) (v ++ w')) k.0 ∙ ap (λ a. Some (a, v ++ w')) (values (f q.0) y q.1 (v ++ T.here) k.1))

  pub settled-sift : {A B : Type 0} (at : List ℕ → Type 0) (b : A → Bool) (f : A → B) (p : Parser A) → Settled at p → Settled at (p >>= (λ x. provided (b x) >> pure (f x)))
  settled-sift at b f p h = record { settled = λ s y v here e. sifted at b f p h s y v here (p (s ++ T.here)) refl e }

  pub settled-provided : {A : Type 0} (at : List ℕ → Type 0) (b : Bool) (p : Parser A) → Settled at p → Settled at (provided b >> p)
  settled-provided at true p h = record { settled = λ s x v here e. h.settled s x v here e }
  settled-provided at false p h = record { settled = λ s x v here e. absurd (is_read (x, v ++ T.here) (sym e)) }

  pub settled-refuse : {A : Type 0} (at : List ℕ → Type 0) → Settled {A = A} at (λ s. None)
  settled-refuse at = record { settled = λ s x v here e. absurd (is_read (x, v ++ T.here) (sym e)) }

  -- ---- choices

  -- where the second reads, the first doesn't, whatever follows
  abbrev pub Gives_way : {A : Type 0} → (List ℕ → Type 0) → Parser A → Parser A → Type 0
  Gives_way {A = A} at p q = (s : List ℕ) (x : A) (v : List ℕ) → at v → p (s ++ T.here) ≡ None → Known q s x v → Stops p s

  chosen : {A : Type 0} (at : List ℕ → Type 0) (p q : Parser A) → Settled at p → Settled at q → Gives_way at p q → (s : List ℕ) (x : A) (v : List ℕ) → at v → (r : Read A) → p (s ++ T.here) ≡ r → otherwise r q (s ++ T.here) ≡ Some (x, v ++ T.here) → Known (p <|> q) s x v
  chosen at p q h k c s x v here None e g =
      let known = k.settled s x v here g in
      let stops = c s x v here e known in
      λ w' i. ap (λ r. otherwise r q (s ++ w')) (stops w' i) ∙ known w' i
  chosen at p q h k c s x v here (Some z) e g = λ w' i. ap (λ r. otherwise r q (s ++ w')) (h.settled s x v here (e ∙ g) w' i)

  pub settled-or : {A : Type 0} (at : List ℕ → Type 0) (p q : Parser A) → Settled at p → Settled at q → Gives_way at p q → Settled at (p <|> q)
  settled-or at p q h k c = record { settled = λ s x v here e. chosen at p q h k c s x v here (p (s ++ T.here)) refl e }

  -- a rule whose first bytes say that it doesn't read
  pub way-shut : {A : Type 0} (at : List ℕ → Type 0) (p q : Parser A) → Shuts p → Takes q → ((v : List ℕ) → at v → Closed v) → Gives_way at p q
  way-shut at p q h t c = λ s x v here e known.
      let fr : (u : List ℕ) × (s ++ T.here ≡ u ++ (v ++ T.here)) = subst (TakesTo (s ++ T.here)) (known T.here T.holds) (t.prefix (s ++ T.here)) in
      λ w' i. h.shut (s ++ T.here) (s ++ w') (closed_after s fr.0 v (cut s fr.0 v fr.1) (c v here) T.here w' T.holds i) e

  pub way-clash : {A : Type 0} (at ends : List ℕ → Type 0) (p q : Parser A) → ((v w : List ℕ) → T.may w → at v → ends (v ++ w)) → Clash ends p q → Gives_way at p q
  way-clash at ends p q k c = λ s x v here e known. λ w' i. never p (s ++ w') (λ y g. c (s ++ w') y x (v ++ w') g (known w' i) (k v w' i here))

  -- ---- repetitions

  -- a rule enters by a text: where it reads to such a text it began with one
  abbrev pub Enters : {A : Type 0} → (List ℕ → Type 0) → Parser A → Type 0
  Enters {A = A} at p = (a : A) (s u v : List ℕ) → s ≡ u ++ v → Known p s a v → at v → at s

  abbrev KnownMany : {A B : Type 0} → (List ℕ → Type 0) → (B → A → B) → Parser A → B → List ℕ → B → List ℕ → Type 0
  KnownMany at add p acc s y v = ((w : List ℕ) (m : ℕ) → T.may w → length (s ++ w) ≤ m → many_from add p m acc (s ++ w) ≡ Some (y, v ++ w)) × at s

  stayed : {A B : Type 0} (at : List ℕ → Type 0) (add : B → A → B) (p : Parser A) (acc y : B) (s v : List ℕ) → at v → Stops p v → ◌≡◌ {A = Read B} (Some (acc, s ++ T.here)) (Some (y, v ++ T.here)) → KnownMany at add p acc s y v
  stayed at add p acc y s v here stops e =
      let z : s ≡ v = append_cancel_right s v T.here (lefts acc y (s ++ T.here) (v ++ T.here) e) in
      let b : acc ≡ y = values acc y (s ++ T.here) (v ++ T.here) e in
      (λ w' m i room. none_left add p m acc (s ++ w') (ap (λ t. p (t ++ w')) z ∙ stops w' i) ∙ both acc y (s ++ w') (v ++ w') b (ap (λ t. t ++ w') z), subst at (sym z) here)

  went : {A B : Type 0} (at : List ℕ → Type 0) (add : B → A → B) (p : Parser A) (acc y : B) (s : List ℕ) (a : A) (t v : List ℕ) → Settled at p → Takes p → Enters at p → p (s ++ T.here) ≡ Some (a, t) → length t < length (s ++ T.here)
      → (u : List ℕ) → t ≡ u ++ (v ++ T.here) → ((v1 : List ℕ) → t ≡ v1 ++ T.here → KnownMany at add p (add acc a) v1 y v) → KnownMany at add p acc s y v
  went at add p acc y s a t v h k enters e shorter u g others =
      let v1 = u ++ v in
      let z : t ≡ v1 ++ T.here = g ∙ sym (append_assoc u v T.here) in
      let more = others v1 z in
      let known : Known p s a v1 = h.settled s a v1 more.1 (e ∙ ap (λ r. Some (a, r)) z) in
      let fr : (u1 : List ℕ) × (s ++ T.here ≡ u1 ++ (v1 ++ T.here)) = subst (TakesTo (s ++ T.here)) (known T.here T.holds) (k.prefix (s ++ T.here)) in
      let less : length v1 < length s = omega (arith, shorter, ap length z, length-append v1 T.here, length-append s T.here) in (
        λ w' m i room.
            let l : length (v1 ++ w') < length (s ++ w') = omega (arith, less, length-append v1 w', length-append s w') in
            let j : m ≡ suc (m - 1) = omega (arith, l, room) in
            a_turn add p m (m - 1) acc (s ++ w') a (v1 ++ w') j (known w' i) l ∙ more.0 w' (m - 1) i (omega (arith, l, room)),
        enters a s fr.0 v1 (cut s fr.0 v1 fr.1) known more.1,
      )

  turns : {A B : Type 0} (at : List ℕ → Type 0) (add : B → A → B) (p : Parser A) → Settled at p → Takes p → Enters at p → (n : ℕ) (acc y : B) (s v : List ℕ) → at v → Stops p v → many_from add p n acc (s ++ T.here) ≡ Some (y, v ++ T.here) → KnownMany at add p acc s y v
  unfolding many_from
  turns at add p h k enters zero acc y s v here stops e = stayed at add p acc y s v here stops e
  turns {A = A} {B = B} at add p h k enters (suc n) acc y s v here stops e =
      turned (p (s ++ T.here)) refl e (λ b t g. turns at add p h k enters n b y t v here stops g)
    where
      gone : (q : A × List ℕ) (b : Bool) → nat_lt (length q.1) (length (s ++ T.here)) ≡ b → p (s ++ T.here) ≡ Some q → go_on add (many_from add p n) acc (s ++ T.here) q b ≡ Some (y, v ++ T.here)
          → ((b : B) (t : List ℕ) → many_from add p n b (t ++ T.here) ≡ Some (y, v ++ T.here) → KnownMany at add p b t y v) → KnownMany at add p acc s y v
      gone q true l g e others =
          let fr : (u : List ℕ) × (q.1 ≡ u ++ (v ++ T.here)) = subst (TakesTo q.1) e ((takes-many add p n (add acc q.0) k).prefix q.1) in
          went at add p acc y s q.0 q.1 v h k enters g (grind (arith, nat_tests)) fr.0 fr.1 (λ v1 z. others (add acc q.0) v1 (ap (many_from add p n (add acc q.0)) (sym z) ∙ e))
      gone q false l g e others = stayed at add p acc y s v here stops e

      turned : (r : Read A) → p (s ++ T.here) ≡ r → turn add (many_from add p n) acc (s ++ T.here) r ≡ Some (y, v ++ T.here)
          → ((b : B) (t : List ℕ) → many_from add p n b (t ++ T.here) ≡ Some (y, v ++ T.here) → KnownMany at add p b t y v) → KnownMany at add p acc s y v
      turned None g e others = stayed at add p acc y s v here stops e
      turned (Some q) g e others = gone q (nat_lt (length q.1) (length (s ++ T.here))) refl g e others

  -- as many turns as there are bytes, up to where the rule stops
  pub settled-many : {A B : Type 0} (at : List ℕ → Type 0) (add : B → A → B) (p : Parser A) (acc : B) → Settled at p → Takes p → Enters at p → Settled (λ v. at v × Stops p v) (λ s. many_from add p (length s) acc s)
  settled-many at add p acc h k enters = record { settled = λ s y v here e. λ w' i. (turns at add p h k enters (length (s ++ T.here)) acc y s v here.0 here.1 e).0 w' (length (s ++ w')) i (omega arith) }

  -- ---- rules that end by closing

  pub record Closing {A : Type 0} (p : Parser A) : Type 0 where
    pub closing : (s : List ℕ) (x : A) (v : List ℕ) → p (s ++ T.here) ≡ Some (x, v ++ T.here) → Closed s

  shutting : {A B : Type 0} (p : Parser A) (f : A → Parser B) → Takes p → ((a : A) → Takes (f a)) → ((a : A) → Closing (f a)) → (s : List ℕ) (x : B) (v : List ℕ) (r : Read A) → p (s ++ T.here) ≡ r → and_then r f ≡ Some (x, v ++ T.here) → Closed s
  shutting p f h k c s x v None e g = absurd (is_read (x, v ++ T.here) (sym g))
  shutting p f h k c s x v (Some q) e g =
      let fr : (u : List ℕ) × (q.1 ≡ u ++ (v ++ T.here)) = subst (TakesTo q.1) g ((k q.0).prefix q.1) in
      let v1 = fr.0 ++ v in
      let z : q.1 ≡ v1 ++ T.here = fr.1 ∙ sym (append_assoc fr.0 v T.here) in
      let er : (u : List ℕ) × (s ++ T.here ≡ u ++ (v1 ++ T.here)) = subst (TakesTo (s ++ T.here)) (e ∙ ap (λ r. Some (q.0, r)) z) (h.prefix (s ++ T.here)) in
      closed_after s er.0 v1 (cut s er.0 v1 er.1) ((c q.0).closing v1 x v (ap (f q.0) (sym z) ∙ g))

  pub closing-bind : {A B : Type 0} (p : Parser A) (f : A → Parser B) → Takes p → ((a : A) → Takes (f a)) → ((a : A) → Closing (f a)) → Closing (p >>= f)
  closing-bind p f h k c = record { closing = λ s x v e. shutting p f h k c s x v (p (s ++ T.here)) refl e }

  pub closing-provided : {A : Type 0} (b : Bool) (p : Parser A) → Closing p → Closing (provided b >> p)
  closing-provided true p h = record { closing = λ s x v e. h.closing s x v e }
  closing-provided false p h = record { closing = λ s x v e. absurd (is_read (x, v ++ T.here) (sym e)) }

  -- ---- one byte

  one_more : (c : ℕ) (s v : List ℕ) → s ++ T.here ≡ c ∷ (v ++ T.here) → s ≡ c ∷ v
  one_more c s v e = cut s (c ∷ []) v e

  pub settled-byte : (c : ℕ) → (0 == c) ≡ false → Settled Anywhere (byte c)
  settled-byte c some = record {
    settled = λ s x v here e. λ w' i.
        ap (λ t. byte c (t ++ w')) (one_more c s v (taken_one c some (s ++ T.here) (v ++ T.here) e)) ∙ byte_at_prefix c (v ++ w');
  }

  after_byte : {A : Type 0} (c : ℕ) → (0 == c) ≡ false → closes c ≡ true → (f : Unit {0} → Parser A) → Takes (f tt) → (s : List ℕ) (x : A) (v : List ℕ) (r : Read (Unit {0})) → byte c (s ++ T.here) ≡ r → and_then r f ≡ Some (x, v ++ T.here) → Closed s
  after_byte c some e f k s x v None g z = absurd (is_read (x, v ++ T.here) (sym z))
  after_byte c some e f k s x v (Some q) g z =
      let fr : (u : List ℕ) × (q.1 ≡ u ++ (v ++ T.here)) = subst (TakesTo q.1) z (k.prefix q.1) in
      let v1 = fr.0 ++ v in
      let b : s ++ T.here ≡ c ∷ (v1 ++ T.here) = taken_one c some (s ++ T.here) q.1 g ∙ ap (λ t. c ∷ t) (fr.1 ∙ sym (append_assoc fr.0 v T.here)) in
      subst Closed (sym (one_more c s v1 b)) (closed_one c v1 e)

  pub closing-byte : {A : Type 0} (c : ℕ) → (0 == c) ≡ false → closes c ≡ true → (p : Parser A) → Takes p → Closing (byte c >> p)
  closing-byte c some e p k = record { closing = λ s x v z. after_byte c some e (λ _. p) k s x v (byte c (s ++ T.here)) refl z }

  -- ---- both: the rule takes a prefix, and leaves such a text whatever follows

  pub record Fixed {A : Type 0} (at : List ℕ → Type 0) (p : Parser A) : Type 0 where
    pub fixed : Settled at p
    pub takes : Takes p

  pub fixed-near : {A : Type 0} (p : Parser A) → Near p → Fixed Closed p
  fixed-near p h = record { fixed = settled-near p h; takes = record { prefix = λ s. near_takes p s (p s) (h.near s) } }

  pub fixed-weaker : {A : Type 0} (at of : List ℕ → Type 0) (p : Parser A) → ((v : List ℕ) → of v → at v) → Fixed at p → Fixed of p
  fixed-weaker at of p f h = record { fixed = weaker at of p f h.fixed; takes = h.takes }

  pub fixed-any : {A : Type 0} (of : List ℕ → Type 0) (p : Parser A) → Fixed Anywhere p → Fixed of p
  fixed-any of p h = fixed-weaker Anywhere of p (λ v _. tt) h

  pub fixed-bind : {A B : Type 0} (at of : List ℕ → Type 0) (p : Parser A) (f : A → Parser B) → Fixed at p → ((a : A) → Fixed of (f a))
      → ((a : A) (x : B) (v1 u v : List ℕ) → v1 ≡ u ++ v → Known (f a) v1 x v → of v → at v1) → Fixed of (p >>= f)
  fixed-bind at of p f h k link = record { fixed = settled-bind at of p f h.fixed (λ a. (k a).fixed) (λ a. (k a).takes) link; takes = takes-bind p f h.takes (λ a. (k a).takes) }

  pub fixed-then : {A B : Type 0} (of : List ℕ → Type 0) (p : Parser A) (f : A → Parser B) → Fixed Closed p → ((a : A) → Fixed of (f a)) → ((v : List ℕ) → of v → Closed v) → Fixed of (p >>= f)
  fixed-then of p f h k c = record { fixed = settled-then of p f h.fixed (λ a. (k a).fixed) (λ a. (k a).takes) c; takes = takes-bind p f h.takes (λ a. (k a).takes) }

  pub fixed-pure : {A : Type 0} (at : List ℕ → Type 0) (x : A) → Fixed at (pure x)
  fixed-pure at x = record { fixed = settled-pure at x; takes = takes-pure x }

  pub fixed-map : {A B : Type 0} (at : List ℕ → Type 0) (f : A → B) (p : Parser A) → Fixed at p → Fixed at (f <$> p)
  fixed-map at f p h = record { fixed = settled-map at f p h.fixed; takes = takes-map f p h.takes }

  pub fixed-provided : {A : Type 0} (at : List ℕ → Type 0) (b : Bool) (p : Parser A) → Fixed at p → Fixed at (provided b >> p)
  fixed-provided at b p h = record { fixed = settled-provided at b p h.fixed; takes = takes-provided b p h.takes }

  pub fixed-sift : {A B : Type 0} (at : List ℕ → Type 0) (b : A → Bool) (f : A → B) (p : Parser A) → Fixed at p → Fixed at (p >>= (λ x. provided (b x) >> pure (f x)))
  fixed-sift at b f p h = record { fixed = settled-sift at b f p h.fixed; takes = takes-bind p _ h.takes (λ x. takes-provided (b x) (pure (f x)) (takes-pure (f x))) }

  pub fixed-refuse : {A : Type 0} (at : List ℕ → Type 0) → Fixed {A = A} at (λ s. None)
  fixed-refuse at = record { fixed = settled-refuse at; takes = takes-nothing }

  pub fixed-byte : (c : ℕ) → (0 == c) ≡ false → Fixed Anywhere (byte c)
  fixed-byte c some = record { fixed = settled-byte c some; takes = takes-byte c }

  pub fixed-or : {A : Type 0} (at : List ℕ → Type 0) (p q : Parser A) → Fixed at p → Fixed at q → Gives_way at p q → Fixed at (p <|> q)
  fixed-or at p q h k c = record { fixed = settled-or at p q h.fixed k.fixed c; takes = takes-or p q h.takes k.takes }

  pub fixed-many : {A B : Type 0} (at : List ℕ → Type 0) (add : B → A → B) (p : Parser A) (acc : B) → Fixed at p → Enters at p → Fixed (λ v. at v × Stops p v) (λ s. many_from add p (length s) acc s)
  fixed-many at add p acc h enters = record { fixed = settled-many at add p acc h.fixed h.takes enters; takes = takes-all add p acc h.takes }

  -- what is closed stays so after whatever is read
  pub enters-closed : {A : Type 0} (p : Parser A) → Enters Closed p
  enters-closed p = λ a s u v e known c. closed_after s u v e c
