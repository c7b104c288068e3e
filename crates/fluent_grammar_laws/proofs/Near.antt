-- A rule is read by the prefix that it takes and what shows of the text after it: two bytes, or a closing bracket or a line feed alone.
use Rattle.std.proofs.Common.{◌≡◌, ◌==◌, ◌||◌, ℕ, zero, suc, ◌+◌, ◌-◌, ◌<◌, ◌≤◌, Bool, true, false, List, [], ◌∷◌, ◌++◌, length, take, drop, Some, None, if◌then◌else◌, refl, sym, ap, ◌∙◌, subst, append_assoc, nat_lt, take-append-drop, arith, length-append, inl, inr}
use Rattle.std.proofs.lemmas.Bool.{cases_Bool}
use Rattle.std.proofs.lemmas.Bool.Decides.{nat_tests}
use Rattle.fluent_text.specs.Parser.{Read, Parser, ◌>>=◌, ◌>>◌, ◌<$>◌, ◌<|>◌, and_then, otherwise, pure, ignore, skip, many_from, turn, go_on, count, one_more, run_len, run, run1, byte, first}
use Rattle.fluent_syntax.specs.Expressions.{taken, source_of}
use Rattle.fluent_text.specs.Facts.Turns.{more as a_turn}
use Rattle.fluent_syntax.specs.Facts.Chunked.{taken_is}

-- ---- what shows of a text

-- `)`, `}` or a line feed: no rule looks after it
unfoldable pub closes : ℕ → Bool
closes c = (c == 41 || c == 125) || c == 10

-- the first two bytes, or one after which no rule looks
abbrev pub shows : List ℕ → List ℕ
shows [] = []
shows (a ∷ s) = if closes a then a ∷ [] else a ∷ take 1 s

-- texts of which the same shows
abbrev pub Alike2 : List ℕ → List ℕ → Type 0
Alike2 s t = shows s ≡ shows t

abbrev pub second : List ℕ → ℕ
second s = first (drop 1 s)

one_of : (s : List ℕ) → first (shows s) ≡ first s
one_of [] = refl
one_of (a ∷ s) = elim (cases_Bool (closes a)) [ inl shut ↦ rw shut refl | inr clear ↦ rw clear refl ]

two_of : (s : List ℕ) → closes (first s) ≡ false → second (shows s) ≡ second s
two_of [] e = refl
two_of (a ∷ []) e = rw e refl
two_of (a ∷ b ∷ s) e = rw e refl

pub one_seen : (s t : List ℕ) → Alike2 s t → first s ≡ first t
one_seen s t e = sym (one_of s) ∙ (ap first e ∙ one_of t)

pub two_seen : (s t : List ℕ) → closes (first s) ≡ false → Alike2 s t → second s ≡ second t
two_seen s t n e = sym (two_of s n) ∙ (ap second e ∙ two_of t (ap closes (sym (one_seen s t e)) ∙ n))

some_shows : (a : ℕ) (s : List ℕ) → 0 < length (shows (a ∷ s))
some_shows a s = elim (cases_Bool (closes a)) [ inl shut ↦ rw shut (omega arith) | inr clear ↦ rw clear (omega arith) ]

pub end_seen : (s : List ℕ) → Alike2 s [] → s ≡ []
end_seen [] e = refl
end_seen (a ∷ s) e = absurd (omega (arith, ap length e, some_shows a s))

take1_of : (s : List ℕ) → take 1 (shows s) ≡ take 1 s
take1_of [] = refl
take1_of (a ∷ s) = elim (cases_Bool (closes a)) [ inl shut ↦ rw shut refl | inr clear ↦ rw clear refl ]

-- after the same prefix
pub after_prefix : (u s t : List ℕ) → Alike2 s t → Alike2 (u ++ s) (u ++ t)
after_prefix [] s t e = e
after_prefix (a ∷ []) s t e = ap (λ w. if closes a then a ∷ [] else a ∷ w) (sym (take1_of s) ∙ (ap (take 1) e ∙ take1_of t))
after_prefix (a ∷ b ∷ u) s t e = refl

-- the same two bytes show the same
shows_two : (s : List ℕ) → shows (take 2 s) ≡ shows s
shows_two [] = refl
shows_two (a ∷ []) = refl
shows_two (a ∷ b ∷ s) = refl

pub two_alike : (s t : List ℕ) → take 2 s ≡ take 2 t → Alike2 s t
two_alike s t e = sym (shows_two s) ∙ (ap shows e ∙ shows_two t)

-- ---- rules

abbrev pub NearTo : {A : Type 0} → Parser A → List ℕ → Read A → Type 0
NearTo p s None = Unit {0}
NearTo p s (Some q) = (u : List ℕ) × (s ≡ u ++ q.1) × ((o : List ℕ) → Alike2 o q.1 → p (u ++ o) ≡ Some (q.0, o))

pub record Near {A : Type 0} (p : Parser A) : Type 0 where
  pub near : (s : List ℕ) → NearTo p s (p s)

-- where it doesn't read, the first two bytes say so
pub record Shuts {A : Type 0} (p : Parser A) : Type 0 where
  pub shut : (s t : List ℕ) → Alike2 s t → p s ≡ None → p t ≡ None

pub after : {A B : Type 0} (p : Parser A) (f : A → Parser B) (s : List ℕ) (a : A) (t : List ℕ) (r : Read B) → NearTo p s (Some (a, t)) → NearTo (f a) t r → NearTo (p >>= f) s r
after p f s a t None h k = tt
after p f s a t (Some q) (u, e, more) (v, g, past) = (
  u ++ v,
  e ∙ (ap (λ x. u ++ x) g ∙ sym (append_assoc u v q.1)),
  λ o same.
      ap (λ z. and_then (p z) f) (append_assoc u v o)
      ∙ (ap (λ z. and_then z f) (more (v ++ o) (after_prefix v o q.1 same ∙ ap shows (sym g)))
      ∙ past o same),
)

bound : {A B : Type 0} (p : Parser A) (f : A → Parser B) (s : List ℕ) (r : Read A) → NearTo p s r → ((x : A) → Near (f x)) → NearTo (p >>= f) s (and_then r f)
bound p f s None h k = tt
bound p f s (Some q) h k = after p f s q.0 q.1 (f q.0 q.1) h ((k q.0).near q.1)

pub near-bind : {A B : Type 0} (p : Parser A) (f : A → Parser B) → Near p → ((x : A) → Near (f x)) → Near (p >>= f)
near-bind p f h k = record { near = λ s. bound p f s (p s) (h.near s) k }

pub near-pure : {A : Type 0} (x : A) → Near (pure x)
near-pure x = record { near = λ s. ([], refl, λ o e. refl) }

pub near-then : {A B : Type 0} (p : Parser A) (q : Parser B) → Near p → Near q → Near (p >> q)
near-then p q h k = near-bind p (λ _. q) h (λ _. k)

pub near-map : {A B : Type 0} (f : A → B) (p : Parser A) → Near p → Near (f <$> p)
near-map f p h = near-bind p (λ x. pure (f x)) h (λ x. near-pure (f x))

second_read : {A : Type 0} (p q : Parser A) (s : List ℕ) (r : Read A) → p s ≡ None → Shuts p → NearTo q s r → NearTo (p <|> q) s r
second_read p q s None n c h = tt
second_read p q s (Some x) n c (u, e, more) =
    (u, e, λ o same. ap (λ z. otherwise z q (u ++ o)) (c.shut s (u ++ o) (ap shows e ∙ sym (after_prefix u o x.1 same)) n) ∙ more o same)

chosen : {A : Type 0} (p q : Parser A) (s : List ℕ) (r : Read A) → p s ≡ r → NearTo p s r → Shuts p → Near q → NearTo (p <|> q) s (otherwise r q s)
chosen p q s None n h c k = second_read p q s (q s) n c (k.near s)
chosen p q s (Some x) n (u, e, more) c k = (u, e, λ o same. ap (λ z. otherwise z q (u ++ o)) (more o same))

pub near-or : {A : Type 0} (p q : Parser A) → Near p → Shuts p → Near q → Near (p <|> q)
near-or p q h c k = record { near = λ s. chosen p q s (p s) refl (h.near s) c k }

pub near-ignore : {A : Type 0} (p : Parser A) → Near p → Near (ignore p)
near-ignore p h = near-then p (pure tt) h (near-pure tt)

-- ---- where rules don't read

abbrev IsRead : {A : Type 0} → Read A → Type 0
IsRead None = ⊥
IsRead (Some p) = Unit {0}

-- what was read is not nothing
pub is_read : {A : Type 0} (p : A × List ℕ) → ◌≡◌ {A = Read A} (Some p) None → ⊥
is_read p e = subst IsRead e tt

pub none_of : {A B : Type 0} (f : A → B) (r : Read A) → and_then r (λ x. pure (f x)) ≡ None → r ≡ None
none_of f None e = refl
none_of f (Some p) e = absurd (is_read (f p.0, p.1) e)

pub shuts-map : {A B : Type 0} (f : A → B) (p : Parser A) → Shuts p → Shuts (f <$> p)
shuts-map f p h = record { shut = λ s t same e. ap (λ z. and_then z (λ x. pure (f x))) (h.shut s t same (none_of f (p s) e)) }

pub shuts-ignore : {A : Type 0} (p : Parser A) → Shuts p → Shuts (ignore p)
shuts-ignore p h = shuts-map (λ _. tt) p h

first_none : {A : Type 0} (r : Read A) (q : Parser A) (s : List ℕ) → otherwise r q s ≡ None → r ≡ None
first_none None q s e = refl
first_none (Some p) q s e = absurd (is_read p e)

pub shuts-or : {A : Type 0} (p q : Parser A) → Shuts p → Shuts q → Shuts (p <|> q)
shuts-or p q h k = record {
  shut = λ s t same e.
      let n = first_none (p s) q s e in
      let m : q s ≡ None = sym (ap (λ z. otherwise z q s) n) ∙ e in
      ap (λ z. otherwise z q t) (h.shut s t same n) ∙ k.shut s t same m;
}

pub near-skip : {A : Type 0} (p : Parser A) → Near p → Shuts p → Near (skip p)
near-skip p h c = near-or (ignore p) (pure tt) (near-ignore p h) (shuts-ignore p c) (near-pure tt)

-- ---- tests of the first two bytes

pub record Sees (b : List ℕ → Bool) : Type 0 where
  pub sees : (s t : List ℕ) → Alike2 s t → b s ≡ b t

tested : {A : Type 0} (b : List ℕ → Bool) (p : Parser A) (s : List ℕ) (r : Read A) → b s ≡ true → Sees b → NearTo p s r → NearTo (λ s. if b s then p s else None) s r
tested b p s None e v h = tt
tested b p s (Some q) e v (u, g, more) =
    (u, g, λ o same. ap (λ w. if w then p (u ++ o) else None) (v.sees (u ++ o) s (after_prefix u o q.1 same ∙ ap shows (sym g)) ∙ e) ∙ more o same)

pub near-if : {A : Type 0} (b : List ℕ → Bool) (p : Parser A) → Sees b → Near p → Near (λ s. if b s then p s else None)
near-if {A = A} b p v h = record { near = λ s. by (b s) s refl }
  where
    by : (w : Bool) (s : List ℕ) → b s ≡ w → NearTo (λ s. if b s then p s else None) s (if w then p s else None)
    by true s e = tested b p s (p s) e v (h.near s)
    by false s e = tt

pub shuts-if : {A : Type 0} (b : List ℕ → Bool) (p : Parser A) → Sees b → Shuts p → Shuts (λ s. if b s then p s else None)
shuts-if b p v h = record { shut = λ s t same e. by (b s) s t same refl e }
  where
    by : (w : Bool) (s t : List ℕ) → Alike2 s t → b s ≡ w → (if w then p s else None) ≡ None → (if b t then p t else None) ≡ None
    by true s t same e n = ap (λ w. if w then p t else None) (sym (v.sees s t same) ∙ e) ∙ h.shut s t same n
    by false s t same e n = ap (λ w. if w then p t else None) (sym (v.sees s t same) ∙ e)

-- ---- runs

-- after such a byte nothing is looked at
pub record Heedless (c : ℕ → ℕ → Bool) : Type 0 where
  pub heedless : (a m n : ℕ) → closes a ≡ true → c a m ≡ c a n

stop_seen : (c : ℕ → ℕ → Bool) → Heedless c → (s t : List ℕ) → Alike2 s t → run_len c s ≡ 0 → run_len c t ≡ 0
stop_seen c h [] t same e = ap (run_len c) (end_seen t (sym same))
stop_seen c h (a ∷ s) [] same e = refl
stop_seen c h (a ∷ s) (b ∷ t) same e =
    elim (cases_Bool (c a (first s))) [
      | inl pass ↦ let e2 = rw pass at e in absurd (omega arith)
      | inr stop ↦
          let x : a ≡ b = one_seen (a ∷ s) (b ∷ t) same in
          let y : c a (first s) ≡ c a (first t) = elim (cases_Bool (closes a)) [
            | inl shut ↦ h.heedless a (first s) (first t) shut
            | inr clear ↦ ap (c a) (two_seen (a ∷ s) (b ∷ t) clear same)
          ] in
          let z : c b (first t) ≡ false = ap (λ k. c k (first t)) (sym x) ∙ (sym y ∙ stop) in
          rw z refl
    ]

-- the same run, before what goes on alike
run_same : (c : ℕ → ℕ → Bool) → Heedless c → (s o : List ℕ) → Alike2 o (drop (run_len c s) s) → run c (take (run_len c s) s ++ o) ≡ Some (take (run_len c s) s, o)
run_same c h [] o same = rw (end_seen o same) refl
run_same c h (a ∷ s) o same =
    elim (cases_Bool (c a (first s))) [
      | inl pass ↦
          let n : 1 + run_len c s ≡ suc (run_len c s) = omega arith in
          let same2 : Alike2 o (drop (run_len c s) s) = same ∙ ap (λ k. shows (drop k (a ∷ s))) (ap (λ v. if v then 1 + run_len c s else 0) pass ∙ n) in
          let u = take (run_len c s) s in
          let f : first (u ++ o) ≡ first s = one_seen (u ++ o) s (after_prefix u o (drop (run_len c s) s) same2 ∙ ap shows (take-append-drop (run_len c s) s)) in
          let more = run_same c h s o same2 in
          let m : 1 + run_len c (u ++ o) ≡ suc (run_len c (u ++ o)) = omega arith in
          rw (pass, n, f, pass, m) (ap (grown a) more)
      | inr stop ↦
          let same2 : Alike2 o (a ∷ s) = same ∙ ap (λ v. shows (drop (if v then 1 + run_len c s else 0) (a ∷ s))) stop in
          rw (stop, stop_seen c h (a ∷ s) o (sym same2) (rw stop refl)) refl
    ]
  where
    grown : ℕ → Read (List ℕ) → Read (List ℕ)
    grown a None = None
    grown a (Some p) = Some (a ∷ p.0, p.1)

pub near-run : (c : ℕ → ℕ → Bool) → Heedless c → Near (run c)
near-run c h = record { near = λ s. (take (run_len c s) s, sym (take-append-drop (run_len c s) s), λ o same. run_same c h s o same) }

-- where a test of the first two bytes does not pass
pub near-unless : {A : Type 0} (b : List ℕ → Bool) (p : Parser A) → Sees b → Near p → Near (λ s. if b s then None else p s)
near-unless {A = A} b p v h = record { near = λ s. by (b s) s refl (p s) (h.near s) }
  where
    passed : (s : List ℕ) (r : Read A) → b s ≡ false → NearTo p s r → NearTo (λ s. if b s then None else p s) s r
    passed s None e n = tt
    passed s (Some q) e (u, g, more) =
        (u, g, λ o same. ap (λ w. if w then None else p (u ++ o)) (v.sees (u ++ o) s (after_prefix u o q.1 same ∙ ap shows (sym g)) ∙ e) ∙ more o same)

    by : (w : Bool) (s : List ℕ) → b s ≡ w → (r : Read A) → NearTo p s r → NearTo (λ s. if b s then None else p s) s (if w then None else r)
    by true s e r n = tt
    by false s e r n = passed s r e n

sees_stop : (c : ℕ → ℕ → Bool) → Heedless c → Sees (λ s. run_len c s == 0)
sees_stop c h = record { sees = λ s t same. by s t same (run_len c s) (run_len c t) refl refl }
  where
    by : (s t : List ℕ) → Alike2 s t → (m n : ℕ) → run_len c s ≡ m → run_len c t ≡ n → (run_len c s == 0) ≡ (run_len c t == 0)
    by s t same zero n e f = let g = stop_seen c h s t same e in rw (e, g) refl
    by s t same (suc m) zero e f = let g = stop_seen c h t s (sym same) f in absurd (omega arith)
    by s t same (suc m) (suc n) e f =
        let a : (run_len c s == 0) ≡ false = grind (arith, nat_tests) in
        let b : (run_len c t == 0) ≡ false = grind (arith, nat_tests) in
        a ∙ sym b

pub near-run1 : (c : ℕ → ℕ → Bool) → Heedless c → Near (run1 c)
unfolding run1
near-run1 c h = near-unless (λ s. run_len c s == 0) (run c) (sees_stop c h) (near-run c h)

pub shuts-run1 : (c : ℕ → ℕ → Bool) → Heedless c → Shuts (run1 c)
unfolding run1
shuts-run1 c h = record { shut = λ s t same e. by (run_len c s == 0) s t same refl e }
  where
    by : (w : Bool) (s t : List ℕ) → Alike2 s t → (run_len c s == 0) ≡ w → (if w then None else run c s) ≡ None → (if run_len c t == 0 then None else run c t) ≡ None
    by true s t same e n = ap (λ w. if w then None else run c t) (sym ((sees_stop c h).sees s t same) ∙ e)
    by false s t same e n = absurd (is_read (take (run_len c s) s, drop (run_len c s) s) n)

-- ---- one byte

pub sees_first : (b : ℕ → Bool) → Sees (λ s. b (first s))
sees_first b = record { sees = λ s t same. ap b (one_seen s t same) }

abbrev pub after_one : List ℕ → Read (Unit {0})
after_one s = Some (tt, drop 1 s)

-- that is not 0
pub near-byte : (c : ℕ) → (0 == c) ≡ false → Near (byte c)
unfolding byte
near-byte c some = record { near = at }
  where
    by : (a : ℕ) (s : List ℕ) (w : Bool) → (a == c) ≡ w → NearTo (byte c) (a ∷ s) (if w then Some (tt {0}, s) else None)
    by a s true e = (a ∷ [], refl, λ o same. ap (λ w. if w then Some (tt {0}, o) else None) e)
    by a s false e = tt

    at : (s : List ℕ) → NearTo (byte c) s (byte c s)
    at [] = subst (λ w. NearTo (byte c) [] (if w then Some (tt {0}, []) else None)) (sym some) tt
    at (a ∷ s) = by a s (a == c) refl

pub shuts-byte : (c : ℕ) → Shuts (byte c)
unfolding byte
shuts-byte c = record { shut = λ s t same e. by (first s == c) s t same refl e }
  where
    by : (w : Bool) (s t : List ℕ) → Alike2 s t → (first s == c) ≡ w → (if w then after_one s else None) ≡ None → (if first t == c then after_one t else None) ≡ None
    by true s t same e n = absurd (is_read (tt, drop 1 s) n)
    by false s t same e n = ap (λ w. if w then after_one t else None) (ap (λ x. x == c) (sym (one_seen s t same)) ∙ e)

-- ---- repetitions

-- where the rule doesn't read, and the place passes, the first two bytes say so
pub record ShutsAt {A : Type 0} (at : List ℕ → Type 0) (p : Parser A) : Type 0 where
  pub shut_at : (s t : List ℕ) → at s → Alike2 s t → p s ≡ None → p t ≡ None

-- one result of a repetition
abbrev pub ManyTo : {A B : Type 0} → (B → A → B) → Parser A → B → List ℕ → B × List ℕ → Type 0
ManyTo add p acc s q = (u : List ℕ) × (s ≡ u ++ q.1) × ((o : List ℕ) (m : ℕ) → Alike2 o q.1 → length (u ++ o) ≤ m → many_from add p m acc (u ++ o) ≡ Some (q.0, o))

abbrev pub NearMany : {A B : Type 0} → (List ℕ → Type 0) → (B → A → B) → Parser A → B → List ℕ → Read B → Type 0
NearMany at add p acc s None = Unit {0}
NearMany at add p acc s (Some q) = at q.1 → ManyTo add p acc s q

pub none_left : {A B : Type 0} (add : B → A → B) (p : Parser A) (m : ℕ) (acc : B) (s : List ℕ) → p s ≡ None → many_from add p m acc s ≡ Some (acc, s)
unfolding many_from
none_left add p zero acc s e = refl
none_left add p (suc m) acc s e = rw e refl

none_taken : {A B : Type 0} (add : B → A → B) (p : Parser A) (m : ℕ) (acc : B) (s : List ℕ) (x : A) → p s ≡ Some (x, s) → many_from add p m acc s ≡ Some (acc, s)
unfolding many_from
none_taken add p zero acc s x e = refl
none_taken add p (suc m) acc s x e = let t : nat_lt (length s) (length s) ≡ false = grind (arith, nat_tests) in rw (e, t) refl

pub nothing_left : {A B : Type 0} (add : B → A → B) (p : Parser A) (m : ℕ) (acc : B) → many_from add p m acc [] ≡ Some (acc, [])
unfolding many_from
nothing_left add p zero acc = refl
nothing_left add p (suc m) acc = by (p [])
  where
    by : (r : Read _) → turn add (many_from add p m) acc [] r ≡ Some (acc, [])
    by None = refl
    by (Some q) = let t : nat_lt (length q.1) 0 ≡ false = grind (arith, nat_tests) in rw t refl

one_more_turn : {A B : Type 0} (add : B → A → B) (p : Parser A) (acc : B) (s : List ℕ) (a : A) (t : List ℕ) (q : B × List ℕ) → length t < length s
    → NearTo p s (Some (a, t)) → ManyTo add p (add acc a) t q → ManyTo add p acc s q
one_more_turn add p acc s a t q l (u, e, more) (v, g, others) =
    (u ++ v, e ∙ (ap (λ x. u ++ x) g ∙ sym (append_assoc u v q.1)), λ o m same room. gone o m same room (append_assoc u v o))
  where
    gone : (o : List ℕ) (m : ℕ) → Alike2 o q.1 → length ((u ++ v) ++ o) ≤ m → (u ++ v) ++ o ≡ u ++ (v ++ o) → many_from add p m acc ((u ++ v) ++ o) ≡ Some (q.0, o)
    gone o m same room z =
        let reads : p (u ++ (v ++ o)) ≡ Some (a, v ++ o) = more (v ++ o) (after_prefix v o q.1 same ∙ ap shows (sym g)) in
        let some : 0 < length u = omega (arith, ap length e, length-append u t) in
        let whole : length ((u ++ v) ++ o) ≡ length u + length (v ++ o) = ap length z ∙ length-append u (v ++ o) in
        let shorter : length (v ++ o) < length (u ++ (v ++ o)) = omega (arith, length-append u (v ++ o)) in
        let k : m ≡ suc (m - 1) = omega arith in
        ap (many_from add p m acc) z ∙ (a_turn add p m (m - 1) acc (u ++ (v ++ o)) a (v ++ o) k reads shorter ∙ others o (m - 1) same (omega arith))

one_turn : {A B : Type 0} (at : List ℕ → Type 0) (add : B → A → B) (p : Parser A) (acc : B) (s : List ℕ) (a : A) (t : List ℕ) (r : Read B) → length t < length s
    → NearTo p s (Some (a, t)) → NearMany at add p (add acc a) t r → NearMany at add p acc s r
one_turn at add p acc s a t None l h k = tt
one_turn at add p acc s a t (Some q) l h k = λ here. one_more_turn add p acc s a t q l h (k here)

pub near_turns : {A B : Type 0} (at : List ℕ → Type 0) (add : B → A → B) (p : Parser A) (n : ℕ) (acc : B) (s : List ℕ) → Near p → ShutsAt at p → length s ≤ n → NearMany at add p acc s (many_from add p n acc s)
unfolding many_from
near_turns at add p zero acc [] h c l = λ here. ([], refl, λ o m same room. ap (many_from add p m acc) (end_seen o same) ∙ (nothing_left add p m acc ∙ ap (λ x. Some (acc, x)) (sym (end_seen o same))))
near_turns at add p zero acc (b ∷ s) h c l = absurd (omega arith)
near_turns {A = A} {B = B} at add p (suc n) acc s h c l = turned (p s) refl (h.near s) (λ b t k. near_turns at add p n b t h c k)
  where
    stayed : (q : A × List ℕ) → p s ≡ Some q → length s ≤ length q.1 → NearTo p s (Some q) → NearMany at add p acc s (Some (acc, s))
    stayed q e k ([], g, more) = λ here. ([], refl, λ o m same room. none_taken add p m acc o q.0 (more o (same ∙ ap shows g)))
    stayed q e k (b ∷ u, g, more) = absurd (omega (arith, ap length g, length-append u q.1))

    gone : (q : A × List ℕ) (w : Bool) → nat_lt (length q.1) (length s) ≡ w → p s ≡ Some q → NearTo p s (Some q) → ((b : B) (t : List ℕ) → length t ≤ n → NearMany at add p b t (many_from add p n b t)) → NearMany at add p acc s (go_on add (many_from add p n) acc s q w)
    gone q true w e k others =
        let lt : length q.1 < length s = grind (arith, nat_tests) in
        one_turn at add p acc s q.0 q.1 (many_from add p n (add acc q.0) q.1) lt k (others (add acc q.0) q.1 (omega arith))
    gone q false w e k others = stayed q e (grind (arith, nat_tests)) k

    turned : (r : Read A) → p s ≡ r → NearTo p s r → ((b : B) (t : List ℕ) → length t ≤ n → NearMany at add p b t (many_from add p n b t)) → NearMany at add p acc s (turn add (many_from add p n) acc s r)
    turned None e k others = λ here. ([], refl, λ o m same room. none_left add p m acc o (c.shut_at s o here (sym same) e))
    turned (Some q) e k others = gone q (nat_lt (length q.1) (length s)) refl e k others

many_near : {A B : Type 0} (add : B → A → B) (p : Parser A) (acc : B) (s : List ℕ) (r : Read B) → NearMany (λ t. Unit {0}) add p acc s r → NearTo (λ s. many_from add p (length s) acc s) s r
many_near add p acc s None h = tt
many_near add p acc s (Some q) h = let (u, e, more) = h tt in (u, e, λ o same. more o (length (u ++ o)) same (omega arith))

everywhere : {A : Type 0} (p : Parser A) → Shuts p → ShutsAt (λ t. Unit {0}) p
everywhere p c = record { shut_at = λ s t here same e. c.shut s t same e }

-- as many turns as there are bytes
pub near-all : {A B : Type 0} (add : B → A → B) (p : Parser A) (acc : B) → Near p → Shuts p → Near (λ s. many_from add p (length s) acc s)
near-all add p acc h c = record { near = λ s. many_near add p acc s (many_from add p (length s) acc s) (near_turns (λ t. Unit {0}) add p (length s) acc s h (everywhere p c) (omega arith)) }

pub near-count : {A : Type 0} (p : Parser A) → Near p → Shuts p → Near (count p)
near-count p h c = near-all one_more p 0 h c

-- ---- the bytes that a rule takes

took : (u o : List ℕ) → take (length (u ++ o) - length o) (u ++ o) ≡ u
took u o = taken_is (u ++ o) u o refl

pub sourced : {A : Type 0} (p : Parser A) (s : List ℕ) (r : Read A) → NearTo p s r → NearTo (source_of p) s (taken s r)
sourced p s None h = tt
sourced p s (Some q) (u, e, more) = (u, e, λ o same. ap (taken (u ++ o)) (more o same) ∙ ap (λ x. Some (x, o)) (took u o ∙ sym (taken_is s u q.1 e)))

pub near-source_of : {A : Type 0} (p : Parser A) → Near p → Near (source_of p)
near-source_of p h = record { near = λ s. sourced p s (p s) (h.near s) }
