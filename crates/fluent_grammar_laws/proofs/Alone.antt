-- A rule reads the same where what stands after its part of a text is taken away.
use Rattle.std.proofs.Common.{◌≡◌, ◌==◌, ℕ, zero, suc, ◌+◌, ◌-◌, ◌<◌, ◌≤◌, Bool, true, false, List, [], ◌∷◌, ◌++◌, length, take, drop, Some, None, if◌then◌else◌, refl, sym, ap, ◌∙◌, subst, append_assoc, nat_lt, arith, length-append, length-drop, ◌⊎◌, inl, inr}
use Rattle.std.proofs.lemmas.Bool.{cases_Bool}
use Rattle.std.proofs.lemmas.Bool.Decides.{nat_tests}
use Rattle.std.proofs.lemmas.List.{append_cancel_right, take-append-le, drop-append-le}
use Rattle.fluent_text.specs.Parser.{Read, Parser, ◌>>=◌, ◌>>◌, ◌<$>◌, ◌<|>◌, and_then, otherwise, pure, ignore, many_from, turn, go_on, run_len, run, run1, byte, first}
use Rattle.fluent_syntax.specs.Expressions.{provided, taken, source_of}
use Rattle.fluent_text.specs.Facts.Turns.{more as a_turn}
use Rattle.fluent_text.specs.Facts.Runs.{run_len-le}
use Rattle.fluent_syntax.specs.Facts.Chunked.{taken_is}
use Rattle.fluent_syntax.specs.Facts.Prefixes.{TakesTo, Takes, takes-bind, takes-pure, takes-or, takes-all, takes-many, takes-run, takes-run1, takes-byte, takes-source_of}
use Rattle.fluent_grammar_laws.specs.PrefixLaws.{ReadByPrefixAlone}
use Rattle.fluent_grammar_laws.proofs.Near.{is_read, none_of, none_left, nothing_left}
use Rattle.fluent_grammar_laws.proofs.Known.{lefts, values, both, taken_one, takes-provided, unread}
use Rattle.fluent_grammar_laws.proofs.Leads.{first_read}

-- a fact of the text that a rule leaves of its own, and of what stands after that
abbrev pub Seam : Type 1
Seam = List ℕ → List ℕ → Type 0

abbrev pub Any : Seam
Any v w = Unit {0}

-- nothing is left
abbrev pub Whole : Seam
Whole v w = v ≡ []

pub record Alone {A : Type 0} (at : Seam) (p : Parser A) : Type 0 where
  pub alone : (s : List ℕ) (x : A) (v w : List ℕ) → at v w → p (s ++ w) ≡ Some (x, v ++ w) → p s ≡ Some (x, v)
  pub takes : Takes p

pub alone-weaker : {A : Type 0} (at of : Seam) (p : Parser A) → ((v w : List ℕ) → of v w → at v w) → Alone at p → Alone of p
alone-weaker at of p f h = record { alone = λ s x v w here e. h.alone s x v w (f v w here) e; takes = h.takes }

pub alone-any : {A : Type 0} (of : Seam) (p : Parser A) → Alone Any p → Alone of p
alone-any of p h = alone-weaker Any of p (λ v w _. tt) h

-- ---- one after the other

pub alone-bind : {A B : Type 0} (at of : Seam) (p : Parser A) (f : A → Parser B) → Alone at p → ((a : A) → Alone of (f a))
    → ((a : A) (x : B) (t v w : List ℕ) → f a (t ++ w) ≡ Some (x, v ++ w) → f a t ≡ Some (x, v) → of v w → at t w) → Alone of (p >>= f)
alone-bind at of p f h k link = record {
  alone = λ s x v w here e.
      let (q, g, j) = first_read (p (s ++ w)) f (x, v ++ w) e in
      let fr : (u : List ℕ) × (q.1 ≡ u ++ (v ++ w)) = subst (TakesTo q.1) j ((k q.0).takes.prefix q.1) in
      let t = fr.0 ++ v in
      let z : q.1 ≡ t ++ w = fr.1 ∙ sym (append_assoc fr.0 v w) in
      let before : f q.0 (t ++ w) ≡ Some (x, v ++ w) = ap (f q.0) (sym z) ∙ j in
      let second : f q.0 t ≡ Some (x, v) = (k q.0).alone t x v w here before in
      let prefix : p s ≡ Some (q.0, t) = h.alone s q.0 t w (link q.0 x t v w before second here) (g ∙ ap (λ r. Some (q.0, r)) z) in
      ap (λ r. and_then r f) prefix ∙ second;
  takes = takes-bind p f h.takes (λ a. (k a).takes);
}

-- the same, where the first needs nothing of what it leaves
pub alone-then : {A B : Type 0} (of : Seam) (p : Parser A) (f : A → Parser B) → Alone Any p → ((a : A) → Alone of (f a)) → Alone of (p >>= f)
alone-then of p f h k = alone-bind Any of p f h k (λ a x t v w e g here. tt)

pub alone-pure : {A : Type 0} (at : Seam) (x : A) → Alone at (pure x)
alone-pure at x = record {
  alone = λ s y v w here e. both x y s v (values x y (s ++ w) (v ++ w) e) (append_cancel_right s v w (lefts x y (s ++ w) (v ++ w) e));
  takes = takes-pure x;
}

pub alone-map : {A B : Type 0} (at : Seam) (f : A → B) (p : Parser A) → Alone at p → Alone at (f <$> p)
alone-map at f p h = alone-bind at at p (λ x. pure (f x)) h (λ x. alone-pure at (f x)) (λ a x t v w e g here. subst (λ r. at r w) (sym (lefts (f a) x t v g)) here)

pub alone-provided : {A : Type 0} (at : Seam) (b : Bool) (p : Parser A) → Alone at p → Alone at (provided b >> p)
alone-provided at true p h = record { alone = λ s x v w here e. h.alone s x v w here e; takes = takes-provided true p h.takes }
alone-provided at false p h = record { alone = λ s x v w here e. absurd (is_read (x, v ++ w) (sym e)); takes = takes-provided false p h.takes }

-- ---- choices

-- where the second reads such a text alone, the first doesn't, if it doesn't before what follows
abbrev pub Way : {A : Type 0} → Seam → Parser A → Parser A → Type 0
Way {A = A} at p q = (s : List ℕ) (x : A) (v w : List ℕ) → at v w → p (s ++ w) ≡ None → q s ≡ Some (x, v) → p s ≡ None

pub alone-or : {A : Type 0} (at : Seam) (p q : Parser A) → Alone at p → Alone at q → Way at p q → Alone at (p <|> q)
alone-or {A = A} at p q h k way = record { alone = λ s x v w here e. by s x v w here (p (s ++ w)) refl e; takes = takes-or p q h.takes k.takes }
  where
    by : (s : List ℕ) (x : A) (v w : List ℕ) → at v w → (r : Read A) → p (s ++ w) ≡ r → otherwise r q (s ++ w) ≡ Some (x, v ++ w) → otherwise (p s) q s ≡ Some (x, v)
    by s x v w here None e g = let second = k.alone s x v w here g in ap (λ r. otherwise r q s) (way s x v w here e second) ∙ second
    by s x v w here (Some z) e g = ap (λ r. otherwise r q s) (h.alone s x v w here (e ∙ g))

-- what a rule reads alone it reads before whatever follows, more or less of it
pub record Lasts {A : Type 0} (p : Parser A) : Type 0 where
  pub lasts : (s w : List ℕ) → p (s ++ w) ≡ None → p s ≡ None

pub way-lasts : {A : Type 0} (at : Seam) (p q : Parser A) → Lasts p → Way at p q
way-lasts at p q h = λ s x v w here e g. h.lasts s w e

-- rules of which no text has both
pub way-clash : {A : Type 0} (at : Seam) (p q : Parser A) → ((t : List ℕ) (y z : A × List ℕ) → p t ≡ Some y → q t ≡ Some z → ⊥) → Way at p q
way-clash at p q c = λ s x v w here e g. unread (p s) (λ y f. c s y (x, v) f g)

pub lasts-map : {A B : Type 0} (f : A → B) (p : Parser A) → Lasts p → Lasts (f <$> p)
lasts-map f p h = record { lasts = λ s w e. ap (λ r. and_then r (λ x. pure (f x))) (h.lasts s w (none_of f (p (s ++ w)) e)) }

pub lasts-ignore : {A : Type 0} (p : Parser A) → Lasts p → Lasts (ignore p)
lasts-ignore p h = lasts-map (λ _. tt) p h

-- a rule that ends by itself
pub lasts-closed : {A : Type 0} (p : Parser A) → ((s : List ℕ) → ReadByPrefixAlone p s) → Lasts p
lasts-closed {A = A} p h = record { lasts = λ s w e. by s w e (p s) refl }
  where
    by : (s w : List ℕ) → p (s ++ w) ≡ None → (r : Read A) → p s ≡ r → r ≡ None
    by s w e None g = refl
    by s w e (Some z) g =
        let (u, f, more) = h s z.0 z.1 g in
        absurd (is_read (z.0, z.1 ++ w) (sym (more (z.1 ++ w)) ∙ (ap p (sym (append_assoc u z.1 w) ∙ ap (λ t. t ++ w) (sym f)) ∙ e)))

pub alone-closed : {A : Type 0} (p : Parser A) → ((s : List ℕ) → ReadByPrefixAlone p s) → Takes p → Alone Any p
alone-closed p h k = record {
  alone = λ s x v w here e.
      let (u, f, more) = h (s ++ w) x (v ++ w) e in
      let z : s ≡ u ++ v = append_cancel_right s (u ++ v) w (f ∙ sym (append_assoc u v w)) in
      ap p z ∙ more v;
  takes = k;
}

-- ---- repetitions

-- there the repetition ends
abbrev pub Rests : {A : Type 0} → Parser A → List ℕ → Type 0
Rests p v = (v ≡ []) ⊎ (p v ≡ None)

pub rested : {A B : Type 0} (add : B → A → B) (p : Parser A) (m : ℕ) (acc : B) (v : List ℕ) → Rests p v → many_from add p m acc v ≡ Some (acc, v)
rested add p m acc v (inl e) = ap (many_from add p m acc) e ∙ (nothing_left add p m acc ∙ ap (λ t. Some (acc, t)) (sym e))
rested add p m acc v (inr e) = none_left add p m acc v e

abbrev pub Enters : {A : Type 0} → Seam → Parser A → Type 0
Enters {A = A} at p = (a : A) (s v w : List ℕ) → p (s ++ w) ≡ Some (a, v ++ w) → p s ≡ Some (a, v) → length v < length s → at v w → at s w

abbrev Turned : {A B : Type 0} → Seam → (B → A → B) → Parser A → B → B → List ℕ → List ℕ → List ℕ → Type 0
Turned at add p acc y s v w = ((m : ℕ) → length s ≤ m → many_from add p m acc s ≡ Some (y, v)) × at s w

stayed : {A B : Type 0} (at : Seam) (add : B → A → B) (p : Parser A) (acc y : B) (s v w : List ℕ) → at v w → Rests p v → ◌≡◌ {A = Read B} (Some (acc, s ++ w)) (Some (y, v ++ w)) → Turned at add p acc y s v w
stayed at add p acc y s v w here rest e =
    let z : s ≡ v = append_cancel_right s v w (lefts acc y (s ++ w) (v ++ w) e) in
    (λ m room. ap (many_from add p m acc) z ∙ (rested add p m acc v rest ∙ ap (λ b. Some (b, v)) (values acc y (s ++ w) (v ++ w) e)), subst (λ t. at t w) (sym z) here)

turns : {A B : Type 0} (at : Seam) (add : B → A → B) (p : Parser A) → Alone at p → Enters at p → (n : ℕ) (acc y : B) (s v w : List ℕ) → at v w → Rests p v → many_from add p n acc (s ++ w) ≡ Some (y, v ++ w) → Turned at add p acc y s v w
unfolding many_from
turns at add p h enters zero acc y s v w here rest e = stayed at add p acc y s v w here rest e
turns {A = A} {B = B} at add p h enters (suc n) acc y s v w here rest e = by (p (s ++ w)) refl e (λ b t g. turns at add p h enters n b y t v w here rest g)
  where
    gone : (q : A × List ℕ) (b : Bool) → nat_lt (length q.1) (length (s ++ w)) ≡ b → p (s ++ w) ≡ Some q → go_on add (many_from add p n) acc (s ++ w) q b ≡ Some (y, v ++ w)
        → ((b : B) (t : List ℕ) → many_from add p n b (t ++ w) ≡ Some (y, v ++ w) → Turned at add p b y t v w) → Turned at add p acc y s v w
    gone q false l g e others = stayed at add p acc y s v w here rest e
    gone q true l g e others =
        let fr : (u : List ℕ) × (q.1 ≡ u ++ (v ++ w)) = subst (TakesTo q.1) e ((takes-many add p n (add acc q.0) h.takes).prefix q.1) in
        let t = fr.0 ++ v in
        let z : q.1 ≡ t ++ w = fr.1 ∙ sym (append_assoc fr.0 v w) in
        let more = others (add acc q.0) t (ap (many_from add p n (add acc q.0)) (sym z) ∙ e) in
        let before : p (s ++ w) ≡ Some (q.0, t ++ w) = g ∙ ap (λ r. Some (q.0, r)) z in
        let one : p s ≡ Some (q.0, t) = h.alone s q.0 t w more.1 before in
        let k : length q.1 < length (s ++ w) = grind (arith, nat_tests) in
        let less : length t < length s = omega (arith, k, ap length z, length-append t w, length-append s w) in (
          λ m room.
              let j : m ≡ suc (m - 1) = omega (arith, less, room) in
              a_turn add p m (m - 1) acc s q.0 t j one less ∙ more.0 (m - 1) (omega (arith, less, room)),
          enters q.0 s t w before one less more.1,
        )

    by : (r : Read A) → p (s ++ w) ≡ r → turn add (many_from add p n) acc (s ++ w) r ≡ Some (y, v ++ w)
        → ((b : B) (t : List ℕ) → many_from add p n b (t ++ w) ≡ Some (y, v ++ w) → Turned at add p b y t v w) → Turned at add p acc y s v w
    by None g e others = stayed at add p acc y s v w here rest e
    by (Some q) g e others = gone q (nat_lt (length q.1) (length (s ++ w))) refl g e others

-- as many turns as there are bytes
pub alone-many : {A B : Type 0} (at : Seam) (add : B → A → B) (p : Parser A) (acc : B) → Alone at p → Enters at p → Alone (λ v w. at v w × Rests p v) (λ s. many_from add p (length s) acc s)
alone-many at add p acc h enters = record {
  alone = λ s y v w here e. (turns at add p h enters (length (s ++ w)) acc y s v w here.0 here.1 e).0 (length s) (omega arith);
  takes = takes-all add p acc h.takes;
}

-- where it needs nothing
pub enters-any : {A : Type 0} (p : Parser A) → Enters Any p
enters-any p = λ a s v w e g less here. tt

-- ---- bytes

abbrev pub one : Bool → List ℕ → Read (Unit {0})
one b s = if b then Some (tt, s) else None

pub alone-byte : (c : ℕ) → (0 == c) ≡ false → Alone Any (byte c)
unfolding byte
alone-byte c some = record {
  alone = λ s x v w here e.
      let z : s ≡ c ∷ v = append_cancel_right s (c ∷ v) w (taken_one c some (s ++ w) (v ++ w) e) in
      let same : (c == c) ≡ true = grind (arith, nat_tests) in
      ap (byte c) z ∙ ap (λ b. one b v) same;
  takes = takes-byte c;
}

pub lasts-byte : (c : ℕ) → (0 == c) ≡ false → Lasts (byte c)
unfolding byte
lasts-byte c some = record { lasts = at }
  where
    by : (b : Bool) (s w : List ℕ) → one b (s ++ w) ≡ None → one b s ≡ None
    by true s w e = absurd (is_read (tt, s ++ w) e)
    by false s w e = refl

    at : (s w : List ℕ) → byte c (s ++ w) ≡ None → byte c s ≡ None
    at [] w e = ap (λ b. one b []) some
    at (a ∷ s) w e = by (a == c) s w e

-- a byte, and what lasts
pub lasts-next : {A : Type 0} (c : ℕ) (q : Parser A) → (0 == c) ≡ false → Lasts q → Lasts (byte c >> q)
unfolding byte
lasts-next {A = A} c q some h = record { lasts = at }
  where
    by : (b : Bool) (s w : List ℕ) → and_then (one b (s ++ w)) (λ _. q) ≡ None → and_then (one b s) (λ _. q) ≡ None
    by true s w e = h.lasts s w e
    by false s w e = refl

    at : (s w : List ℕ) → (byte c >> q) (s ++ w) ≡ None → (byte c >> q) s ≡ None
    at [] w e = ap (λ b. and_then (one b []) (λ _. q)) some
    at (a ∷ s) w e = by (a == c) s w e

-- ---- runs

-- a byte that passes before whatever follows passes at the end
pub record Easy (c : ℕ → ℕ → Bool) : Type 0 where
  pub easy : (a n : ℕ) → c a n ≡ true → c a 0 ≡ true

-- one byte that is left, and doesn't pass before what follows, doesn't pass at the end
abbrev pub Still : (ℕ → ℕ → Bool) → Seam
Still c v w = (a : ℕ) → v ≡ a ∷ [] → c a (first w) ≡ false → c a 0 ≡ false

all_left : (n : ℕ) (v w : List ℕ) → n ≤ length w → drop n w ≡ v ++ w → n ≡ 0
all_left n v w h e = omega (arith, ap length e, length-drop n w, length-append v w)

run_same : (c : ℕ → ℕ → Bool) → Easy c → (s v w : List ℕ) → Still c v w → drop (run_len c (s ++ w)) (s ++ w) ≡ v ++ w → run_len c s ≡ run_len c (s ++ w)
run_same c h [] v w still e = sym (all_left (run_len c w) v w (run_len-le c w) e)
run_same c h (a ∷ s) v w still e =
    elim (cases_Bool (c a (first (s ++ w)))) [
      | inl pass ↦
          let n : 1 + run_len c (s ++ w) ≡ suc (run_len c (s ++ w)) = omega arith in
          let e2 : drop (run_len c (s ++ w)) (s ++ w) ≡ v ++ w = sym (ap (λ k. drop k (a ∷ (s ++ w))) (ap (λ b. if b then 1 + run_len c (s ++ w) else 0) pass ∙ n)) ∙ e in
          let here : c a (first s) ≡ true = passes s w pass in
          rw (here, pass) (ap (λ k. 1 + k) (run_same c h s v w still e2))
      | inr stop ↦
          let z : a ∷ (s ++ w) ≡ v ++ w = sym (ap (λ b. drop (if b then 1 + run_len c (s ++ w) else 0) (a ∷ (s ++ w))) stop) ∙ e in
          let here : c a (first s) ≡ false = stops s w (append_cancel_right (a ∷ s) v w z) still stop in
          rw (here, stop) refl
    ]
  where
    passes : (s w : List ℕ) → c a (first (s ++ w)) ≡ true → c a (first s) ≡ true
    passes [] w e = h.easy a (first w) e
    passes (b ∷ s) w e = e

    stops : (s w : List ℕ) → a ∷ s ≡ v → Still c v w → c a (first (s ++ w)) ≡ false → c a (first s) ≡ false
    stops [] w z still e = still a (sym z) e
    stops (b ∷ s) w z still e = e

run_cut : (c : ℕ → ℕ → Bool) → Easy c → (s x v w : List ℕ) → Still c v w → run c (s ++ w) ≡ Some (x, v ++ w) → (run_len c s ≡ run_len c (s ++ w)) × (run c s ≡ Some (x, v))
run_cut c h s x v w still e =
    let d : drop (run_len c (s ++ w)) (s ++ w) ≡ v ++ w = lefts (take (run_len c (s ++ w)) (s ++ w)) x (drop (run_len c (s ++ w)) (s ++ w)) (v ++ w) e in
    let t : take (run_len c (s ++ w)) (s ++ w) ≡ x = values (take (run_len c (s ++ w)) (s ++ w)) x (drop (run_len c (s ++ w)) (s ++ w)) (v ++ w) e in
    let n : run_len c s ≡ run_len c (s ++ w) = run_same c h s v w still d in
    let t2 : take (run_len c s) s ≡ x = sym (take-append-le (run_len c s) s w (run_len-le c s)) ∙ (ap (λ k. take k (s ++ w)) n ∙ t) in
    let d2 : drop (run_len c s) s ≡ v = append_cancel_right (drop (run_len c s) s) v w (sym (drop-append-le (run_len c s) s w (run_len-le c s)) ∙ (ap (λ k. drop k (s ++ w)) n ∙ d)) in
    (n, both (take (run_len c s) s) x (drop (run_len c s) s) v t2 d2)

alone-run : (c : ℕ → ℕ → Bool) → Easy c → Alone (Still c) (run c)
alone-run c h = record { alone = λ s x v w still e. (run_cut c h s x v w still e).1; takes = takes-run c }

pub alone-run1 : (c : ℕ → ℕ → Bool) → Easy c → Alone (Still c) (run1 c)
unfolding run1
alone-run1 c h = record { alone = λ s x v w still e. by (run_len c (s ++ w) == 0) s x v w refl still e; takes = takes-run1 c }
  where
    by : (b : Bool) (s x v w : List ℕ) → (run_len c (s ++ w) == 0) ≡ b → Still c v w → (if b then None else run c (s ++ w)) ≡ Some (x, v ++ w) → (if run_len c s == 0 then None else run c s) ≡ Some (x, v)
    by true s x v w g still e = absurd (is_read (x, v ++ w) (sym e))
    by false s x v w g still e =
        let (n, r) = run_cut c h s x v w still e in
        ap (λ b. if b then None else run c s) (ap (λ k. k == 0) n ∙ g) ∙ r

-- a test that doesn't look on
pub record Plain (c : ℕ → ℕ → Bool) : Type 0 where
  pub plain : (a m n : ℕ) → c a m ≡ c a n

plain-easy : (c : ℕ → ℕ → Bool) → Plain c → Easy c
plain-easy c h = record { easy = λ a n e. h.plain a 0 n ∙ e }

plain-still : (c : ℕ → ℕ → Bool) → Plain c → (v w : List ℕ) → Any v w → Still c v w
plain-still c h v w here = λ a e f. h.plain a 0 (first w) ∙ f

pub alone-plain : (c : ℕ → ℕ → Bool) → Plain c → Alone Any (run c)
alone-plain c h = alone-weaker (Still c) Any (run c) (plain-still c h) (alone-run c (plain-easy c h))

pub alone-plain1 : (c : ℕ → ℕ → Bool) → Plain c → Alone Any (run1 c)
alone-plain1 c h = alone-weaker (Still c) Any (run1 c) (plain-still c h) (alone-run1 c (plain-easy c h))

-- none passes at the start, if none passes before what follows
no_run : (c : ℕ → ℕ → Bool) → Plain c → (s w : List ℕ) → run_len c (s ++ w) ≡ 0 → run_len c s ≡ 0
no_run c h [] w e = refl
no_run c h (a ∷ s) w e =
    elim (cases_Bool (c a (first (s ++ w)))) [
      | inl pass ↦ let e2 = rw pass at e in absurd (omega arith)
      | inr stop ↦ let here : c a (first s) ≡ false = h.plain a (first s) (first (s ++ w)) ∙ stop in rw here refl
    ]

run1_none : (c : ℕ → ℕ → Bool) (s : List ℕ) → run1 c s ≡ None → run_len c s ≡ 0
unfolding run1
run1_none c s e = by (run_len c s == 0) refl e
  where
    by : (b : Bool) → (run_len c s == 0) ≡ b → (if b then None else run c s) ≡ None → run_len c s ≡ 0
    by true g e = grind (arith, nat_tests)
    by false g e = absurd (is_read (take (run_len c s) s, drop (run_len c s) s) e)

pub none_run1 : (c : ℕ → ℕ → Bool) (s : List ℕ) → run_len c s ≡ 0 → run1 c s ≡ None
unfolding run1
none_run1 c s e = rw e refl

pub lasts-run1 : (c : ℕ → ℕ → Bool) → Plain c → Lasts (run1 c)
lasts-run1 c h = record { lasts = λ s w e. none_run1 c s (no_run c h s w (run1_none c (s ++ w) e)) }

-- ---- what a part takes

pub alone-source_of : {A : Type 0} (at : Seam) (p : Parser A) → Alone at p → Alone at (source_of p)
alone-source_of {A = A} at p h = record { alone = λ s x v w here e. by s x v w here (p (s ++ w)) refl e; takes = takes-source_of p h.takes }
  where
    by : (s x v w : List ℕ) → at v w → (r : Read A) → p (s ++ w) ≡ r → taken (s ++ w) r ≡ Some (x, v ++ w) → taken s (p s) ≡ Some (x, v)
    by s x v w here None g e = absurd (is_read (x, v ++ w) (sym e))
    by s x v w here (Some q) g e =
        let z : q.1 ≡ v ++ w = lefts (take (length (s ++ w) - length q.1) (s ++ w)) x q.1 (v ++ w) e in
        let one : p s ≡ Some (q.0, v) = h.alone s q.0 v w here (g ∙ ap (λ r. Some (q.0, r)) z) in
        let fr : (u : List ℕ) × (s ≡ u ++ v) = subst (TakesTo s) one (h.takes.prefix s) in
        let whole : s ++ w ≡ fr.0 ++ q.1 = ap (λ t. t ++ w) fr.1 ∙ (append_assoc fr.0 v w ∙ ap (λ t. fr.0 ++ t) (sym z)) in
        let x_is : fr.0 ≡ x = sym (taken_is (s ++ w) fr.0 q.1 whole) ∙ values (take (length (s ++ w) - length q.1) (s ++ w)) x q.1 (v ++ w) e in
        ap (taken s) one ∙ both (take (length s - length v) s) x v v (taken_is s fr.0 v fr.1 ∙ x_is) refl
