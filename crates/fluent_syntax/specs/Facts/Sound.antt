-- A rule takes a prefix of the text, and what it gives holds a fact.
use Rattle.std.proofs.Common.{◌≡◌, ℕ, zero, suc, Bool, true, false, List, [], ◌++◌, length, Some, None, refl, sym, ap, ◌∙◌, append_assoc, nat_lt, subst}
use Rattle.fluent_text.specs.Parser.{Read, Parser, ◌>>=◌, ◌>>◌, ◌<$>◌, ◌<|>◌, and_then, otherwise, pure, refuse, many_from, turn, go_on}
use Rattle.fluent_syntax.specs.Expressions.{provided}
use Rattle.fluent_syntax.specs.Facts.Prefixes.{TakesTo, Takes}

abbrev pub Holds : {A : Type 0} → (A → Type 0) → List ℕ → Read A → Type 0
Holds P s None = Unit {0}
Holds P s (Some p) = ((u : List ℕ) × (s ≡ u ++ p.1)) × P p.0

pub record Sound {A : Type 0} (P : A → Type 0) (p : Parser A) : Type 0 where
  pub each : (s : List ℕ) → Holds P s (p s)

after : {A : Type 0} (P : A → Type 0) (s u t : List ℕ) (r : Read A) → s ≡ u ++ t → Holds P t r → Holds P s r
after P s u t None e h = tt
after P s u t (Some p) e h = ((u ++ h.0.0, e ∙ (ap (λ x. u ++ x) h.0.1 ∙ sym (append_assoc u h.0.0 p.1))), h.1)

bound : {A B : Type 0} (Q : A → Type 0) (P : B → Type 0) (s : List ℕ) (r : Read A) (f : A → Parser B) → Holds Q s r → ((x : A) → Q x → Sound P (f x)) → Holds P s (and_then r f)
bound Q P s None f h k = tt
bound Q P s (Some p) f h k = after P s h.0.0 p.1 (f p.0 p.1) h.0.1 ((k p.0 h.1).each p.1)

pub sound-bind : {A B : Type 0} (Q : A → Type 0) (P : B → Type 0) (p : Parser A) (f : A → Parser B) → Sound Q p → ((x : A) → Q x → Sound P (f x)) → Sound P (p >>= f)
sound-bind Q P p f h k = record { each = λ s. bound Q P s (p s) f (h.each s) k }

taken : {A : Type 0} (s : List ℕ) (r : Read A) → TakesTo s r → Holds (λ x. Unit {0}) s r
taken s None h = tt
taken s (Some p) h = (h, tt)

-- a part of which nothing is said
pub sound-any : {A : Type 0} (p : Parser A) → Takes p → Sound (λ x. Unit {0}) p
sound-any p h = record { each = λ s. taken s (p s) (h.prefix s) }

pub sound-read : {A B : Type 0} (P : B → Type 0) (p : Parser A) (f : A → Parser B) → Takes p → ((x : A) → Sound P (f x)) → Sound P (p >>= f)
sound-read P p f h k = sound-bind (λ x. Unit {0}) P p f (sound-any p h) (λ x _. k x)

pub sound-then : {A B : Type 0} (P : B → Type 0) (p : Parser A) (q : Parser B) → Takes p → Sound P q → Sound P (p >> q)
sound-then P p q h k = sound-read P p (λ _. q) h (λ _. k)

pub sound-pure : {A : Type 0} (P : A → Type 0) (x : A) → P x → Sound P (pure x)
sound-pure P x h = record { each = λ s. (([], refl), h) }

pub sound-map : {A B : Type 0} (Q : A → Type 0) (P : B → Type 0) (f : A → B) (p : Parser A) → Sound Q p → ((x : A) → Q x → P (f x)) → Sound P (f <$> p)
sound-map Q P f p h k = sound-bind Q P p (λ x. pure (f x)) h (λ x q. sound-pure P (f x) (k x q))

pub sound-refuse : {A : Type 0} (P : A → Type 0) → Sound P refuse
sound-refuse P = record { each = λ s. tt }

chosen : {A : Type 0} (P : A → Type 0) (s : List ℕ) (r : Read A) (q : Parser A) → Holds P s r → Sound P q → Holds P s (otherwise r q s)
chosen P s None q h k = k.each s
chosen P s (Some p) q h k = h

pub sound-or : {A : Type 0} (P : A → Type 0) (p q : Parser A) → Sound P p → Sound P q → Sound P (p <|> q)
sound-or P p q h k = record { each = λ s. chosen P s (p s) q (h.each s) k }

pub sound-provided : {A : Type 0} (P : A → Type 0) (b : Bool) (q : Parser A) → (b ≡ true → Sound P q) → Sound P (provided b >> q)
sound-provided P true q h = record { each = λ s. after P s [] s (q s) refl ((h refl).each s) }
sound-provided P false q h = record { each = λ s. tt }

turned : {A B : Type 0} (Q : A → Type 0) (P : B → Type 0) (add : B → A → B) (more : B → Parser B) (acc : B) (s : List ℕ) (r : Read A)
    → P acc → Holds Q s r → ((b : B) (x : A) → P b → Q x → P (add b x)) → ((b : B) → P b → Sound P (more b)) → Holds P s (turn add more acc s r)
turned Q P add more acc s None h q k m = (([], refl), h)
turned Q P add more acc s (Some p) h q k m = gone (nat_lt (length p.1) (length s))
  where
    gone : (b : Bool) → Holds P s (go_on add more acc s p b)
    gone true = after P s q.0.0 p.1 (more (add acc p.0) p.1) q.0.1 ((m (add acc p.0) (k acc p.0 h q.1)).each p.1)
    gone false = (([], refl), h)

pub sound-many : {A B : Type 0} (Q : A → Type 0) (P : B → Type 0) (add : B → A → B) (p : Parser A) (n : ℕ) (acc : B)
    → Sound Q p → ((b : B) (x : A) → P b → Q x → P (add b x)) → P acc → Sound P (many_from add p n acc)
unfolding many_from
sound-many Q P add p zero acc h k a = sound-pure P acc a
sound-many Q P add p (suc n) acc h k a = record { each = λ s. turned Q P add (many_from add p n) acc s (p s) a (h.each s) k (λ b c. sound-many Q P add p n b h k c) }

pub sound-all : {A B : Type 0} (Q : A → Type 0) (P : B → Type 0) (add : B → A → B) (p : Parser A) (acc : B)
    → Sound Q p → ((b : B) (x : A) → P b → Q x → P (add b x)) → P acc → Sound P (λ s. many_from add p (length s) acc s)
sound-all Q P add p acc h k a = record { each = λ s. (sound-many Q P add p (length s) acc h k a).each s }

-- what was read, and the rest
pub sound_at : {A : Type 0} (P : A → Type 0) (p : Parser A) (s : List ℕ) (x : A) (rest : List ℕ) → Sound P p → p s ≡ Some (x, rest) → ((u : List ℕ) × (s ≡ u ++ rest)) × P x
sound_at P p s x rest h e = subst (Holds P s) e (h.each s)

taken_to : {A : Type 0} (P : A → Type 0) (s : List ℕ) (r : Read A) → Holds P s r → TakesTo s r
taken_to P s None h = tt
taken_to P s (Some p) h = h.0

pub takes-sound : {A : Type 0} (P : A → Type 0) (p : Parser A) → Sound P p → Takes p
takes-sound P p h = record { prefix = λ s. taken_to P s (p s) (h.each s) }
