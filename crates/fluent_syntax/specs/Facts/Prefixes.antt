-- A rule takes a prefix of its text, and some rules at least a byte of it.
use Rattle.std.proofs.Common.{◌≡◌, ◌==◌, ℕ, zero, suc, ◌-◌, ◌<◌, ◌≤◌, Bool, true, false, cond, List, [], ◌++◌, length, take, drop, Some, None, if◌then◌else◌, refl, sym, ap, ◌∙◌, subst, append_assoc, nat_lt, take-append-drop, arith, length-append, length-drop}
use Rattle.std.proofs.Math.Seq.{drop-append_seam}
use Rattle.std.proofs.lemmas.Bool.Decides.{nat_tests}
use Rattle.fluent_text.specs.Parser.{Read, Parser, ◌>>=◌, ◌>>◌, ◌<$>◌, ◌<|>◌, and_then, otherwise, pure, refuse, ignore, skip, optional, many_from, turn, go_on, count, one_more, run_len, run, run1, byte, first}
use Rattle.fluent_syntax.specs.Expressions.{taken, source_of}
use Rattle.fluent_text.specs.Facts.Runs.{run_len-le}

abbrev pub TakesTo : {A : Type 0} → List ℕ → Read A → Type 0
TakesTo s None = Unit {0}
TakesTo s (Some p) = (u : List ℕ) × (s ≡ u ++ p.1)

pub record Takes {A : Type 0} (p : Parser A) : Type 0 where
  pub prefix : (s : List ℕ) → TakesTo s (p s)

after : {A : Type 0} (s u t : List ℕ) (r : Read A) → s ≡ u ++ t → TakesTo t r → TakesTo s r
after s u t None e h = tt
after s u t (Some p) e h = (u ++ h.0, e ∙ (ap (λ x. u ++ x) h.1 ∙ sym (append_assoc u h.0 p.1)))

bound : {A B : Type 0} (s : List ℕ) (r : Read A) (f : A → Parser B) → TakesTo s r → ((x : A) → Takes (f x)) → TakesTo s (and_then r f)
bound s None f h k = tt
bound s (Some p) f h k = after s h.0 p.1 (f p.0 p.1) h.1 ((k p.0).prefix p.1)

pub takes-bind : {A B : Type 0} (p : Parser A) (f : A → Parser B) → Takes p → ((x : A) → Takes (f x)) → Takes (p >>= f)
takes-bind p f h k = record { prefix = λ s. bound s (p s) f (h.prefix s) k }

pub takes-pure : {A : Type 0} (x : A) → Takes (pure x)
takes-pure x = record { prefix = λ s. ([], refl) }

pub takes-refuse : {A : Type 0} → Takes (refuse {A = A})
takes-refuse = record { prefix = λ s. tt }

pub takes-then : {A B : Type 0} (p : Parser A) (q : Parser B) → Takes p → Takes q → Takes (p >> q)
takes-then p q h k = takes-bind p (λ _. q) h (λ _. k)

pub takes-map : {A B : Type 0} (f : A → B) (p : Parser A) → Takes p → Takes (f <$> p)
takes-map f p h = takes-bind p (λ x. pure (f x)) h (λ x. takes-pure (f x))

chosen : {A : Type 0} (s : List ℕ) (r : Read A) (q : Parser A) → TakesTo s r → Takes q → TakesTo s (otherwise r q s)
chosen s None q h k = k.prefix s
chosen s (Some p) q h k = h

pub takes-or : {A : Type 0} (p q : Parser A) → Takes p → Takes q → Takes (p <|> q)
takes-or p q h k = record { prefix = λ s. chosen s (p s) q (h.prefix s) k }

pub takes-ignore : {A : Type 0} (p : Parser A) → Takes p → Takes (ignore p)
takes-ignore p h = takes-then p (pure tt) h (takes-pure tt)

pub takes-skip : {A : Type 0} (p : Parser A) → Takes p → Takes (skip p)
takes-skip p h = takes-or (ignore p) (pure tt) (takes-ignore p h) (takes-pure tt)

pub takes-optional : {A : Type 0} (p : Parser A) → Takes p → Takes (optional p)
takes-optional p h = takes-or (Some <$> p) (pure None) (takes-map Some p h) (takes-pure None)

-- where a test passes
pub takes-if : {A : Type 0} (b : List ℕ → Bool) (p : Parser A) → Takes p → Takes (λ s. if b s then p s else None)
takes-if b p h = record { prefix = λ s. tested s (b s) }
  where
    tested : (s : List ℕ) (v : Bool) → TakesTo s (if v then p s else None)
    tested s true = h.prefix s
    tested s false = tt

-- where a test does not pass
pub takes-unless : {A : Type 0} (b : List ℕ → Bool) (p : Parser A) → Takes p → Takes (λ s. if b s then None else p s)
takes-unless b p h = record { prefix = λ s. tested s (b s) }
  where
    tested : (s : List ℕ) (v : Bool) → TakesTo s (if v then None else p s)
    tested s false = h.prefix s
    tested s true = tt

if_prefix : {A : Type 0} (b : Bool) (s : List ℕ) (x y : Read A) → TakesTo s x → TakesTo s y → TakesTo s (cond b x y)
if_prefix true s x y h k = h
if_prefix false s x y h k = k

pub takes-test : {A : Type 0} (test : List ℕ → Bool) (p q : Parser A) → Takes p → Takes q → Takes (λ s. cond (test s) (p s) (q s))
takes-test test p q h k = record { prefix = λ s. if_prefix (test s) s (p s) (q s) (h.prefix s) (k.prefix s) }

pub takes-nothing : {A : Type 0} → Takes {A = A} (λ s. None)
takes-nothing = record { prefix = λ s. tt }

pub takes-drop : {A : Type 0} (x : A) (n : ℕ) → Takes (λ s. Some (x, drop n s))
takes-drop x n = record { prefix = λ s. (take n s, sym (take-append-drop n s)) }

turn-prefix : {A B : Type 0} (add : B → A → B) (more : B → Parser B) (acc : B) (s : List ℕ) (r : Read A) → TakesTo s r → ((b : B) → Takes (more b)) → TakesTo s (turn add more acc s r)
turn-prefix add more acc s None h k = ([], refl)
turn-prefix add more acc s (Some p) h k = gone (nat_lt (length p.1) (length s))
  where
    gone : (b : Bool) → TakesTo s (go_on add more acc s p b)
    gone true = after s h.0 p.1 (more (add acc p.0) p.1) h.1 ((k (add acc p.0)).prefix p.1)
    gone false = ([], refl)

pub takes-many : {A B : Type 0} (add : B → A → B) (p : Parser A) (n : ℕ) (acc : B) → Takes p → Takes (many_from add p n acc)
unfolding many_from
takes-many add p zero acc h = record { prefix = λ s. ([], refl) }
takes-many add p (suc n) acc h = record { prefix = λ s. turn-prefix add (many_from add p n) acc s (p s) (h.prefix s) (λ b. takes-many add p n b h) }

-- as many turns as there are bytes
pub takes-all : {A B : Type 0} (add : B → A → B) (p : Parser A) (acc : B) → Takes p → Takes (λ s. many_from add p (length s) acc s)
takes-all add p acc h = record { prefix = λ s. (takes-many add p (length s) acc h).prefix s }

pub takes-count : {A : Type 0} (p : Parser A) → Takes p → Takes (count p)
takes-count p h = takes-all one_more p 0 h

pub takes-run : (c : ℕ → ℕ → Bool) → Takes (run c)
takes-run c = record { prefix = λ s. (take (run_len c s) s, sym (take-append-drop (run_len c s) s)) }

pub takes-run1 : (c : ℕ → ℕ → Bool) → Takes (run1 c)
unfolding run1
takes-run1 c = takes-unless _ (run c) (takes-run c)

pub takes-byte : (c : ℕ) → Takes (byte c)
unfolding byte
takes-byte c = takes-if _ (λ s. Some (tt, drop 1 s)) (record { prefix = λ s. (take 1 s, sym (take-append-drop 1 s)) })

sourced : {A : Type 0} (s : List ℕ) (r : Read A) → TakesTo s r → TakesTo s (taken s r)
sourced s None h = tt
sourced s (Some p) h = h

pub takes-source_of : {A : Type 0} (p : Parser A) → Takes p → Takes (source_of p)
takes-source_of p h = record { prefix = λ s. sourced s (p s) (h.prefix s) }

-- ---- what is left is the end of the text

pub end_of : {A : Type 0} (s : List ℕ) (r : Read A) (x : A) (rest : List ℕ) → r ≡ Some (x, rest) → TakesTo s r → (u : List ℕ) × (s ≡ u ++ rest)
end_of s r x rest e h = subst (TakesTo s) e h

pub left_within : {A : Type 0} (p : Parser A) (s : List ℕ) (x : A) (rest : List ℕ) → Takes p → p s ≡ Some (x, rest) → length rest ≤ length s
left_within p s x rest h e =
    let f = end_of s (p s) x rest e (h.prefix s) in
    omega (arith, ap length f.1, length-append f.0 rest)

drop-prefix : (u rest : List ℕ) (n : ℕ) → n ≡ length u → drop n (u ++ rest) ≡ rest
drop-prefix u rest n e = ap (λ k. drop k (u ++ rest)) e ∙ drop-append_seam u rest

pub left_end : {A : Type 0} (p : Parser A) (s : List ℕ) (x : A) (rest : List ℕ) → Takes p → p s ≡ Some (x, rest) → drop (length s - length rest) s ≡ rest
left_end p s x rest h e =
    let f = end_of s (p s) x rest e (h.prefix s) in
    let n : length s - length rest ≡ length f.0 = omega (arith, ap length f.1, length-append f.0 rest) in
    ap (drop (length s - length rest)) f.1 ∙ drop-prefix f.0 rest (length s - length rest) n

-- ---- at least a byte

abbrev pub Lessens : {A : Type 0} → List ℕ → Read A → Type 0
Lessens s None = Unit {0}
Lessens s (Some p) = length p.1 < length s

-- of a text that has one
pub record Eats {A : Type 0} (p : Parser A) : Type 0 where
  pub less : (s : List ℕ) → 0 < length s → Lessens s (p s)

pub no_longer : {A : Type 0} (s : List ℕ) (a : A) (t : List ℕ) → TakesTo s (Some (a, t)) → length t ≤ length s
no_longer s a t h = omega (arith, ap length h.1, length-append h.0 t)

pub then_less : {A : Type 0} (s t : List ℕ) (r : Read A) → length t < length s → TakesTo t r → Lessens s r
then_less s t None l h = tt
then_less s t (Some p) l h = omega (arith, no_longer t p.0 p.1 h)

bound_less : {A B : Type 0} (s : List ℕ) (r : Read A) (f : A → Parser B) → Lessens s r → ((x : A) → Takes (f x)) → Lessens s (and_then r f)
bound_less s None f l k = tt
bound_less s (Some p) f l k = then_less s p.1 (f p.0 p.1) l ((k p.0).prefix p.1)

pub eats-bind : {A B : Type 0} (p : Parser A) (f : A → Parser B) → Eats p → ((x : A) → Takes (f x)) → Eats (p >>= f)
eats-bind p f h k = record { less = λ s n. bound_less s (p s) f (h.less s n) k }

pub eats-then : {A B : Type 0} (p : Parser A) (q : Parser B) → Eats p → Takes q → Eats (p >> q)
eats-then p q h k = eats-bind p (λ _. q) h (λ _. k)

pub eats-map : {A B : Type 0} (f : A → B) (p : Parser A) → Eats p → Eats (f <$> p)
eats-map f p h = eats-bind p (λ x. pure (f x)) h (λ x. takes-pure (f x))

chosen_less : {A : Type 0} (s : List ℕ) (r : Read A) (q : Parser A) → Lessens s r → Lessens s (q s) → Lessens s (otherwise r q s)
chosen_less s None q l k = k
chosen_less s (Some p) q l k = l

pub eats-or : {A : Type 0} (p q : Parser A) → Eats p → Eats q → Eats (p <|> q)
eats-or p q h k = record { less = λ s n. chosen_less s (p s) q (h.less s n) (k.less s n) }

skipped_less : {A B : Type 0} (s : List ℕ) (r : Read A) (q : Parser B) → Lessens s r → Lessens s (q s) → Takes q → Lessens s (and_then (otherwise (and_then r (λ _. pure (tt {0}))) (pure (tt {0})) s) (λ _. q))
skipped_less s None q l h k = h
skipped_less s (Some p) q l h k = then_less s p.1 (q p.1) l (k.prefix p.1)

pub eats-skip : {A B : Type 0} (p : Parser A) (q : Parser B) → Eats p → Eats q → Takes q → Eats (skip p >> q)
eats-skip p q h k t = record { less = λ s n. skipped_less s (p s) q (h.less s n) (k.less s n) t }

pub eats-byte : (c : ℕ) → Eats (byte c)
unfolding byte
eats-byte c = record { less = λ s n. tested s n (first s == c) }
  where
    tested : (s : List ℕ) → 0 < length s → (v : Bool) → Lessens s (if v then Some (tt {0}, drop 1 s) else None)
    tested s n true = omega (arith, length-drop 1 s)
    tested s n false = tt

-- where the run isn't empty
pub run_less : (c : ℕ → ℕ → Bool) (s : List ℕ) → 0 < run_len c s → Lessens s (run c s)
run_less c s h = omega (arith, length-drop (run_len c s) s, run_len-le c s)

pub eats-run1 : (c : ℕ → ℕ → Bool) → Eats (run1 c)
unfolding run1
eats-run1 c = record { less = λ s n. tested s (run_len c s == 0) refl }
  where
    tested : (s : List ℕ) (v : Bool) → (run_len c s == 0) ≡ v → Lessens s (if v then None else run c s)
    tested s true e = tt
    tested s false e = run_less c s (grind (arith, nat_tests))
