-- Slices of a text, and rules that are read at its end: what they give holds a fact.
use Rattle.std.proofs.Common.{◌≡◌, ℕ, zero, suc, ◌-◌, Bool, true, false, [], ◌++◌, length, take, drop, Some, None, if◌then◌else◌, sym, ap, ◌∙◌, append_assoc, append-nil, take-append-drop, nat_lt}
use Rattle.fluent_ast.specs.Tree.{Text}
use Rattle.fluent_text.specs.Parser.{Read, Parser, ◌>>=◌, ◌>>◌, ◌<$>◌, ◌<|>◌, and_then, otherwise, pure, refuse, many_from, turn, go_on, run, run_len}
use Rattle.fluent_syntax.specs.Expressions.{provided, taken, source_of}
use Rattle.fluent_grammar_laws.specs.SliceLaws.{IsSlice}
use Rattle.fluent_syntax.specs.Facts.Prefixes.{TakesTo, Takes}

-- ---- slices

-- a text is the end of a source
abbrev pub EndOf : Text → Text → Type 0
EndOf w s = (u : Text) × (w ≡ u ++ s)

pub later : (w s u t : Text) → EndOf w s → s ≡ u ++ t → EndOf w t
later w s u t h e = (h.0 ++ u, h.1 ∙ (ap (λ x. h.0 ++ x) e ∙ sym (append_assoc h.0 u t)))

pub slice_here : (w s t rest : Text) → EndOf w s → s ≡ t ++ rest → IsSlice w t
slice_here w s t rest h e = (h.0, rest, h.1 ∙ ap (λ x. h.0 ++ x) e)

-- a slice of a slice
pub slice_of : (w t u : Text) → IsSlice w t → IsSlice t u → IsSlice w u
slice_of w t u h k = (
  h.0 ++ k.0,
  k.1 ++ h.1,
  h.2
      ∙ (ap (λ x. h.0 ++ (x ++ h.1)) k.2
      ∙ (ap (λ x. h.0 ++ x) (append_assoc k.0 (u ++ k.1) h.1 ∙ ap (λ x. k.0 ++ x) (append_assoc u k.1 h.1))
      ∙ sym (append_assoc h.0 k.0 (u ++ (k.1 ++ h.1))))),
)

pub slice_take : (w t : Text) (n : ℕ) → IsSlice w t → IsSlice w (take n t)
slice_take w t n h = slice_of w t (take n t) h ([], drop n t, sym (take-append-drop n t))

pub slice_end : (w t f u : Text) → IsSlice w t → t ≡ f ++ u → IsSlice w u
slice_end w t f u h e = slice_of w t u h (f, [], e ∙ ap (λ x. f ++ x) (sym (append-nil u)))

pub slice_prefix : (w t u r : Text) → IsSlice w t → t ≡ u ++ r → IsSlice w u
slice_prefix w t u r h e = slice_of w t u h ([], r, e)

-- ---- what is read, with the text after it

abbrev pub Gives : {A : Type 0} → (A → Text → Type 0) → Read A → Type 0
Gives P None = Unit {0}
Gives P (Some p) = P p.0 p.1

pub gives-bind : {A B : Type 0} (Q : A → Text → Type 0) (P : B → Text → Type 0) (r : Read A) (f : A → Parser B) → Gives Q r → ((x : A) (t : Text) → Q x t → Gives P (f x t)) → Gives P (and_then r f)
gives-bind Q P None f h k = tt
gives-bind Q P (Some p) f h k = k p.0 p.1 h

pub gives-or : {A : Type 0} (P : A → Text → Type 0) (r : Read A) (q : Parser A) (s : Text) → Gives P r → Gives P (q s) → Gives P (otherwise r q s)
gives-or P None q s h k = k
gives-or P (Some p) q s h k = h

-- the same, with a weaker fact
pub gives-so : {A : Type 0} (Q P : A → Text → Type 0) (r : Read A) → Gives Q r → ((x : A) (t : Text) → Q x t → P x t) → Gives P r
gives-so Q P None h k = tt
gives-so Q P (Some p) h k = k p.0 p.1 h

-- it is after a prefix
abbrev pub After : {A : Type 0} → Text → A → Text → Type 0
After s x t = (u : Text) × (s ≡ u ++ t)

pub gives-takes : {A : Type 0} (s : Text) (p : Parser A) → Takes p → Gives (After s) (p s)
gives-takes s p h = by_read (p s) (h.prefix s)
  where
    by_read : {A : Type 0} (r : Read A) → TakesTo s r → Gives (After s) r
    by_read None k = tt
    by_read (Some q) k = k

-- ---- rules at the end of a source

abbrev pub Ended : {A : Type 0} → Text → (A → Type 0) → A → Text → Type 0
Ended w P x t = EndOf w t × P x

pub record Within {A : Type 0} (w : Text) (P : A → Type 0) (p : Parser A) : Type 0 where
  pub each : (s : Text) → EndOf w s → Gives (Ended w P) (p s)

pub within-bind : {A B : Type 0} (w : Text) (Q : A → Type 0) (P : B → Type 0) (p : Parser A) (f : A → Parser B) → Within w Q p → ((x : A) → Q x → Within w P (f x)) → Within w P (p >>= f)
within-bind w Q P p f h k = record { each = λ s o. gives-bind (Ended w Q) (Ended w P) (p s) f (h.each s o) (λ x t q. (k x q.1).each t q.0) }

-- a part of which nothing is said
pub within-any : {A : Type 0} (w : Text) (p : Parser A) → Takes p → Within w (λ x. Unit {0}) p
within-any w p h = record { each = λ s o. gives-so (After s) (Ended w (λ x. Unit {0})) (p s) (gives-takes s p h) (λ x t q. (later w s q.0 t o q.1, tt)) }

pub within-then : {A B : Type 0} (w : Text) (P : B → Type 0) (p : Parser A) (q : Parser B) → Takes p → Within w P q → Within w P (p >> q)
within-then w P p q h k = within-bind w (λ x. Unit {0}) P p (λ _. q) (within-any w p h) (λ _ _. k)

pub within-pure : {A : Type 0} (w : Text) (P : A → Type 0) (x : A) → P x → Within w P (pure x)
within-pure w P x h = record { each = λ s o. (o, h) }

pub within-map : {A B : Type 0} (w : Text) (Q : A → Type 0) (P : B → Type 0) (f : A → B) (p : Parser A) → Within w Q p → ((x : A) → Q x → P (f x)) → Within w P (f <$> p)
within-map w Q P f p h k = within-bind w Q P p (λ x. pure (f x)) h (λ x q. within-pure w P (f x) (k x q))

pub within-refuse : {A : Type 0} (w : Text) (P : A → Type 0) → Within w P refuse
within-refuse w P = record { each = λ s o. tt }

pub within-or : {A : Type 0} (w : Text) (P : A → Type 0) (p q : Parser A) → Within w P p → Within w P q → Within w P (p <|> q)
within-or w P p q h k = record { each = λ s o. gives-or (Ended w P) (p s) q s (h.each s o) (k.each s o) }

-- where a test passes
pub within-if : {A : Type 0} (w : Text) (P : A → Type 0) (b : Text → Bool) (p : Parser A) → Within w P p → Within w P (λ s. if b s then p s else None)
within-if w P b p h = record { each = λ s o. tested s o (b s) }
  where
    tested : (s : Text) → EndOf w s → (v : Bool) → Gives (Ended w P) (if v then p s else None)
    tested s o true = h.each s o
    tested s o false = tt

pub within-provided : {A : Type 0} (w : Text) (P : A → Type 0) (b : Bool) (q : Parser A) → Within w P q → Within w P (provided b >> q)
within-provided w P true q h = record { each = λ s o. h.each s o }
within-provided w P false q h = record { each = λ s o. tt }

turned : {A B : Type 0} (w : Text) (Q : A → Type 0) (P : B → Type 0) (add : B → A → B) (more : B → Parser B) (acc : B) (s : Text) (r : Read A)
    → EndOf w s → P acc → Gives (Ended w Q) r → ((b : B) (x : A) → P b → Q x → P (add b x)) → ((b : B) → P b → Within w P (more b)) → Gives (Ended w P) (turn add more acc s r)
turned w Q P add more acc s None o h q k m = (o, h)
turned w Q P add more acc s (Some p) o h q k m = gone (nat_lt (length p.1) (length s))
  where
    gone : (b : Bool) → Gives (Ended w P) (go_on add more acc s p b)
    gone true = (m (add acc p.0) (k acc p.0 h q.1)).each p.1 q.0
    gone false = (o, h)

within-many : {A B : Type 0} (w : Text) (Q : A → Type 0) (P : B → Type 0) (add : B → A → B) (p : Parser A) (n : ℕ) (acc : B)
    → Within w Q p → ((b : B) (x : A) → P b → Q x → P (add b x)) → P acc → Within w P (many_from add p n acc)
unfolding many_from
within-many w Q P add p zero acc h k a = within-pure w P acc a
within-many w Q P add p (suc n) acc h k a = record { each = λ s o. turned w Q P add (many_from add p n) acc s (p s) o a (h.each s o) k (λ b c. within-many w Q P add p n b h k c) }

pub within-all : {A B : Type 0} (w : Text) (Q : A → Type 0) (P : B → Type 0) (add : B → A → B) (p : Parser A) (acc : B)
    → Within w Q p → ((b : B) (x : A) → P b → Q x → P (add b x)) → P acc → Within w P (λ s. many_from add p (length s) acc s)
within-all w Q P add p acc h k a = record { each = λ s o. (within-many w Q P add p (length s) acc h k a).each s o }

-- ---- texts that are read

run_slice : (w : Text) (c : ℕ → ℕ → Bool) (s : Text) → EndOf w s → Gives (Ended w (IsSlice w)) (run c s)
run_slice w c s o =
    let n = run_len c s in
    let e : s ≡ take n s ++ drop n s = sym (take-append-drop n s) in
    (later w s (take n s) (drop n s) o e, slice_here w s (take n s) (drop n s) o e)

pub slice-run : (w : Text) (c : ℕ → ℕ → Bool) → Within w (IsSlice w) (run c)
slice-run w c = record { each = run_slice w c }

-- what a part takes
pub slice-source_of : {A : Type 0} (w : Text) (p : Parser A) → Takes p → Within w (IsSlice w) (source_of p)
slice-source_of {A = A} w p h = record { each = λ s o. by_read s o (p s) (h.prefix s) }
  where
    by_read : (s : Text) → EndOf w s → (r : Read A) → TakesTo s r → Gives (Ended w (IsSlice w)) (taken s r)
    by_read s o None k = tt
    by_read s o (Some q) k =
        let e : s ≡ take (length s - length q.1) s ++ drop (length s - length q.1) s = sym (take-append-drop (length s - length q.1) s) in
        (later w s k.0 q.1 o k.1, slice_here w s (take (length s - length q.1) s) (drop (length s - length q.1) s) o e)
