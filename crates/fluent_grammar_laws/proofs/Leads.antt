-- The first byte after spaces and line ends, and the bytes with which rules begin.
use Rattle.std.proofs.Common.{◌≡◌, ◌==◌, ◌||◌, ◌&&◌, ℕ, zero, suc, ◌+◌, Bool, true, false, List, [], ◌∷◌, length, take, drop, Some, None, if◌then◌else◌, refl, sym, ap, ◌∙◌, subst, nat_lt, arith, eqb-true, ◌⊎◌, inl, inr}
use Rattle.std.proofs.lemmas.Bool.{cases_Bool}
use Rattle.std.proofs.lemmas.Bool.Decides.{nat_tests}
use Rattle.std.specs.Char.{is_ascii_digit}
use Rattle.fluent_text.specs.Parser.{Read, Parser, ◌>>=◌, ◌>>◌, ◌<$>◌, ◌<|>◌, and_then, otherwise, pure, ignore, skip, optional, many_from, turn, go_on, count, one_more, run_len, run, run1, byte, first}
use Rattle.fluent_text.specs.Lexical.{is_letter, is_space, is_text, is_identifier_byte, identifier, blank_inline, at_end, line_break, line_end, blank_line, blank_block, blank_turn, blank}
use Rattle.fluent_syntax.specs.Pieces.{indent}
use Rattle.fluent_syntax.specs.Expressions.{taken, digits, number_parts, number_literal}
use Rattle.fluent_grammar_laws.proofs.Near.{is_read}
use Rattle.fluent_grammar_laws.proofs.NearRules.{none_digits}
use Rattle.fluent_grammar_laws.proofs.Known.{Clash, lefts, taken_one}

-- ---- what was read of what

pub first_read : {A B : Type 0} (r : Read A) (f : A → Parser B) (z : B × List ℕ) → and_then r f ≡ Some z → (q : A × List ℕ) × (r ≡ Some q) × (f q.0 q.1 ≡ Some z)
first_read None f z e = absurd (is_read z (sym e))
first_read (Some q) f z e = (q, refl, e)

pub either_read : {A : Type 0} (r : Read A) (q : Parser A) (s : List ℕ) (z : A × List ℕ) → otherwise r q s ≡ Some z → (r ≡ Some z) ⊎ (q s ≡ Some z)
either_read None q s z e = inr e
either_read (Some p) q s z e = inl e

Holds : Bool → Type 0
Holds true = Unit {0}
Holds false = ⊥

pub true_false : (b : Bool) → b ≡ true → b ≡ false → ⊥
unfolding Holds
true_false b e f = subst Holds (sym e ∙ f) tt

-- a test that a byte doesn't pass
pub fails_at : (c : ℕ) (P : ℕ → Bool) (n : ℕ) → (n == c) ≡ true → P c ≡ false → P n ≡ true → ⊥
fails_at c P n e f g = true_false (P n) g (ap P (eqb-true n c e) ∙ f)

-- ---- after blanks

abbrev pub is_blank : ℕ → ℕ → Bool
is_blank c after = (c == 32 || c == 10) || (c == 13 && after == 10)

unfoldable pub next : List ℕ → ℕ
next [] = 0
next (c ∷ s) = if is_blank c (first s) then next s else c

pub next_is : (c : ℕ) (s : List ℕ) → is_blank c (first s) ≡ false → next (c ∷ s) ≡ c
unfolding next
next_is c s e = rw e refl

pub next_first : (s : List ℕ) → is_blank (first s) (first (drop 1 s)) ≡ false → next s ≡ first s
unfolding next
next_first [] e = refl
next_first (c ∷ s) e = next_is c s e

-- ---- rules that take blanks alone

abbrev KeepsTo : {A : Type 0} → List ℕ → Read A → Type 0
KeepsTo s None = Unit {0}
KeepsTo s (Some q) = next s ≡ next q.1

pub record Keeps {A : Type 0} (p : Parser A) : Type 0 where
  pub keep : (s : List ℕ) → KeepsTo s (p s)

pub keep_of : {A : Type 0} (p : Parser A) (s : List ℕ) (q : A × List ℕ) → Keeps p → p s ≡ Some q → next s ≡ next q.1
keep_of p s q h e = subst (KeepsTo s) e (h.keep s)

by_read : {A : Type 0} (s : List ℕ) (r : Read A) → ((q : A × List ℕ) → r ≡ Some q → next s ≡ next q.1) → KeepsTo s r
by_read s None h = tt
by_read s (Some q) h = h q refl

keeps-read : {A : Type 0} (p : Parser A) → ((s : List ℕ) (q : A × List ℕ) → p s ≡ Some q → next s ≡ next q.1) → Keeps p
keeps-read p h = record { keep = λ s. by_read s (p s) (h s) }

kept_on : {A : Type 0} (s t : List ℕ) (r : Read A) → next s ≡ next t → KeepsTo t r → KeepsTo s r
kept_on s t None e h = tt
kept_on s t (Some q) e h = e ∙ h

kept_bound : {A B : Type 0} (s : List ℕ) (r : Read A) (f : A → Parser B) → KeepsTo s r → ((a : A) → Keeps (f a)) → KeepsTo s (and_then r f)
kept_bound s None f h k = tt
kept_bound s (Some q) f h k = kept_on s q.1 (f q.0 q.1) h ((k q.0).keep q.1)

pub keeps-bind : {A B : Type 0} (p : Parser A) (f : A → Parser B) → Keeps p → ((a : A) → Keeps (f a)) → Keeps (p >>= f)
keeps-bind p f h k = record { keep = λ s. kept_bound s (p s) f (h.keep s) k }

pub keeps-pure : {A : Type 0} (x : A) → Keeps (pure x)
keeps-pure x = record { keep = λ s. refl }

pub keeps-map : {A B : Type 0} (f : A → B) (p : Parser A) → Keeps p → Keeps (f <$> p)
keeps-map f p h = keeps-bind p (λ x. pure (f x)) h (λ x. keeps-pure (f x))

kept_chosen : {A : Type 0} (s : List ℕ) (r : Read A) (q : Parser A) → KeepsTo s r → Keeps q → KeepsTo s (otherwise r q s)
kept_chosen s None q h k = k.keep s
kept_chosen s (Some z) q h k = h

pub keeps-or : {A : Type 0} (p q : Parser A) → Keeps p → Keeps q → Keeps (p <|> q)
keeps-or p q h k = record { keep = λ s. kept_chosen s (p s) q (h.keep s) k }

pub keeps-skip : {A : Type 0} (p : Parser A) → Keeps p → Keeps (skip p)
keeps-skip p h = keeps-or (ignore p) (pure tt) (keeps-map (λ _. tt) p h) (keeps-pure tt)

kept_turn : {A B : Type 0} (add : B → A → B) (more : B → Parser B) (acc : B) (s : List ℕ) (r : Read A) → KeepsTo s r → ((b : B) → Keeps (more b)) → KeepsTo s (turn add more acc s r)
kept_turn add more acc s None h k = refl
kept_turn {A = A} add more acc s (Some p) h k = gone (nat_lt (length p.1) (length s))
  where
    gone : (b : Bool) → KeepsTo s (go_on add more acc s p b)
    gone true = kept_on s p.1 (more (add acc p.0) p.1) h ((k (add acc p.0)).keep p.1)
    gone false = refl

keeps-many : {A B : Type 0} (add : B → A → B) (p : Parser A) (n : ℕ) (acc : B) → Keeps p → Keeps (many_from add p n acc)
unfolding many_from
keeps-many add p zero acc h = keeps-pure acc
keeps-many add p (suc n) acc h = record { keep = λ s. kept_turn add (many_from add p n) acc s (p s) (h.keep s) (λ b. keeps-many add p n b h) }

pub keeps-count : {A : Type 0} (p : Parser A) → Keeps p → Keeps (count p)
keeps-count p h = record { keep = λ s. (keeps-many one_more p (length s) 0 h).keep s }

pub spaces_next : (s : List ℕ) → next s ≡ next (drop (run_len is_space s) s)
unfolding next
spaces_next [] = refl
spaces_next (a ∷ s) =
    elim (cases_Bool (a == 32)) [
      | inl pass ↦ let n : 1 + run_len is_space s ≡ suc (run_len is_space s) = omega arith in rw (pass, n) (spaces_next s)
      | inr stop ↦ let z : run_len is_space (a ∷ s) ≡ 0 = rw stop refl in ap (λ k. next (drop k (a ∷ s))) (sym z)
    ]

spaces_read : (s : List ℕ) (b : Bool) (q : List ℕ × List ℕ) → ◌≡◌ {A = Read (List ℕ)} (if b then None else run is_space s) (Some q) → next s ≡ next q.1
spaces_read s true q e = absurd (is_read q (sym e))
spaces_read s false q e = spaces_next s ∙ ap next (lefts (take (run_len is_space s) s) q.0 (drop (run_len is_space s) s) q.1 e)

keeps-spaces : Keeps (run1 is_space)
unfolding run1
keeps-spaces = keeps-read (run1 is_space) (λ s q e. spaces_read s (run_len is_space s == 0) q e)

pub keeps-blank_inline : Keeps blank_inline
unfolding blank_inline
keeps-blank_inline = keeps-map length (run1 is_space) keeps-spaces

keeps-feed : Keeps (byte 10)
unfolding next
keeps-feed = keeps-read (byte 10) (λ s q e. ap next (taken_one 10 refl s q.1 e))

pub pair_read : (s : List ℕ) (q : Unit {0} × List ℕ) → (byte 13 >> byte 10) s ≡ Some q → s ≡ 13 ∷ 10 ∷ q.1
pair_read s q e = let (a, g, k) = first_read (byte 13 s) (λ _. byte 10) q e in taken_one 13 refl s a.1 g ∙ ap (λ t. 13 ∷ t) (taken_one 10 refl a.1 q.1 k)

keeps-pair : Keeps (byte 13 >> byte 10)
unfolding next
keeps-pair = keeps-read (byte 13 >> byte 10) (λ s q e. ap next (pair_read s q e))

pub keeps-line_break : Keeps line_break
unfolding line_break
keeps-line_break = keeps-or (byte 13 >> byte 10) (byte 10) keeps-pair keeps-feed

pub end_read : (s : List ℕ) (b : Bool) (q : Unit {0} × List ℕ) → ◌≡◌ {A = Read (Unit {0})} (if b then Some (tt, s) else None) (Some q) → (b ≡ true) × (s ≡ q.1)
end_read s true q e = (refl, lefts tt tt s q.1 e)
end_read s false q e = absurd (is_read q (sym e))

keeps-at_end : Keeps at_end
keeps-at_end = keeps-read at_end (λ s q e. ap next (end_read s (length s == 0) q e).1)

pub keeps-line_end : Keeps line_end
unfolding line_end
keeps-line_end = keeps-or line_break at_end keeps-line_break keeps-at_end

keeps-blank_turn : Keeps blank_turn
unfolding blank_turn
keeps-blank_turn = keeps-or (ignore blank_inline) line_end (keeps-map (λ _. tt) blank_inline keeps-blank_inline) keeps-line_end

keeps-blank : Keeps blank
unfolding blank
keeps-blank = keeps-bind blank_turn _ keeps-blank_turn (λ _. keeps-map (λ _. tt) (count blank_turn) (keeps-count blank_turn keeps-blank_turn))

pub keeps-blanks : Keeps (skip blank)
keeps-blanks = keeps-skip blank keeps-blank

pub keeps-blank_line : Keeps blank_line
unfolding blank_line
keeps-blank_line = keeps-bind (skip blank_inline) _ (keeps-skip blank_inline keeps-blank_inline) (λ _. keeps-line_end)

pub keeps-blank_block : Keeps blank_block
unfolding blank_block
keeps-blank_block = keeps-bind blank_line _ keeps-blank_line (λ _. keeps-map (λ more. more + 1) (count blank_line) (keeps-count blank_line keeps-blank_line))

pub keeps-indent : Keeps indent
unfolding indent
keeps-indent = keeps-bind (optional blank_inline) _ (keeps-or (Some <$> blank_inline) (pure None) (keeps-map Some blank_inline keeps-blank_inline) (keeps-pure None)) (λ n. keeps-pure _)

-- ---- at a line end

pub line_end_read : (s : List ℕ) (q : Unit {0} × List ℕ) → line_end s ≡ Some q → (s ≡ 13 ∷ 10 ∷ q.1) ⊎ ((s ≡ 10 ∷ q.1) ⊎ (length s == 0) ≡ true)
unfolding line_end line_break
line_end_read s q e =
    elim (either_read (line_break s) at_end s q e) [
      | inl broken ↦ elim (either_read ((byte 13 >> byte 10) s) (byte 10) s q broken) [
        | inl pair ↦ inl (pair_read s q pair)
        | inr feed ↦ inr (inl (taken_one 10 refl s q.1 feed))
      ]
      | inr over ↦ inr (inr (end_read s (length s == 0) q over).0)
    ]

pub no_byte : (s : List ℕ) → (length s == 0) ≡ true → s ≡ []
no_byte [] e = refl
no_byte (a ∷ s) e = absurd (grind (arith, nat_tests))

-- no text is there
pub line_end_text : (s : List ℕ) (q : Unit {0} × List ℕ) → line_end s ≡ Some q → run_len is_text s ≡ 0
line_end_text s q e =
    elim (line_end_read s q e) [
      | inl pair ↦ ap (run_len is_text) pair
      | inr (inl feed) ↦ ap (run_len is_text) feed
      | inr (inr over) ↦ ap (run_len is_text) (no_byte s over)
    ]

-- nor a brace
pub line_end_brace : (s : List ℕ) (q : Unit {0} × List ℕ) → line_end s ≡ Some q → (first s == 123) ≡ false
line_end_brace s q e =
    elim (line_end_read s q e) [
      | inl pair ↦ ap (λ t. first t == 123) pair
      | inr (inl feed) ↦ ap (λ t. first t == 123) feed
      | inr (inr over) ↦ ap (λ t. first t == 123) (no_byte s over)
    ]

-- ---- the first byte after blanks, where a rule reads

pub record Leads {A : Type 0} (P : ℕ → Bool) (p : Parser A) : Type 0 where
  pub lead : (t : List ℕ) (z : A × List ℕ) → p t ≡ Some z → P (next t) ≡ true

pub leads-bind : {A B : Type 0} (P : ℕ → Bool) (p : Parser A) (f : A → Parser B) → Leads P p → Leads P (p >>= f)
leads-bind P p f h = record { lead = λ t z e. let (q, g, k) = first_read (p t) f z e in h.lead t q g }

pub leads-keep : {A B : Type 0} (P : ℕ → Bool) (p : Parser A) (f : A → Parser B) → Keeps p → ((a : A) → Leads P (f a)) → Leads P (p >>= f)
leads-keep P p f h l = record { lead = λ t z e. let (q, g, k) = first_read (p t) f z e in ap P (keep_of p t q h g) ∙ (l q.0).lead q.1 z k }

pub leads-or : {A : Type 0} (P : ℕ → Bool) (p q : Parser A) → Leads P p → Leads P q → Leads P (p <|> q)
leads-or P p q h l = record { lead = λ t z e. elim (either_read (p t) q t z e) [ inl one ↦ h.lead t z one | inr other ↦ l.lead t z other ] }

pub leads-byte : (P : ℕ → Bool) (c : ℕ) → (0 == c) ≡ false → ((n : ℕ) → is_blank c n ≡ false) → P c ≡ true → Leads P (byte c)
leads-byte P c some solid e = record { lead = λ t z g. ap (λ s. P (next s)) (taken_one c some t z.1 g) ∙ (ap P (next_is c z.1 (solid (first z.1))) ∙ e) }

-- ---- the first byte, where a rule reads

pub record Starts {A : Type 0} (B : ℕ → Bool) (p : Parser A) : Type 0 where
  pub start : (t : List ℕ) (z : A × List ℕ) → p t ≡ Some z → B (first t) ≡ true

pub starts-bind : {A B : Type 0} (P : ℕ → Bool) (p : Parser A) (f : A → Parser B) → Starts P p → Starts P (p >>= f)
starts-bind P p f h = record { start = λ t z e. let (q, g, k) = first_read (p t) f z e in h.start t q g }

pub starts-or : {A : Type 0} (P : ℕ → Bool) (p q : Parser A) → Starts P p → Starts P q → Starts P (p <|> q)
starts-or P p q h l = record { start = λ t z e. elim (either_read (p t) q t z e) [ inl one ↦ h.start t z one | inr other ↦ l.start t z other ] }

pub starts-byte : (P : ℕ → Bool) (c : ℕ) → (0 == c) ≡ false → P c ≡ true → Starts P (byte c)
starts-byte P c some e = record { start = λ t z g. ap (λ s. P (first s)) (taken_one c some t z.1 g) ∙ e }

pub starts-weaker : {A : Type 0} (P Q : ℕ → Bool) (p : Parser A) → ((c : ℕ) → P c ≡ true → Q c ≡ true) → Starts P p → Starts Q p
starts-weaker P Q p f h = record { start = λ t z e. f (first t) (h.start t z e) }

letter_read : (s : List ℕ) (b : Bool) (q : List ℕ × List ℕ) → ◌≡◌ {A = Read (List ℕ)} (if b then run is_identifier_byte s else None) (Some q) → b ≡ true
letter_read s true q e = refl
letter_read s false q e = absurd (is_read q (sym e))

pub starts-identifier : Starts is_letter identifier
unfolding identifier
starts-identifier = record { start = λ t z e. letter_read t (is_letter (first t)) z e }

taken_read : {A : Type 0} (s : List ℕ) (r : Read A) (z : List ℕ × List ℕ) → taken s r ≡ Some z → (q : A × List ℕ) × (r ≡ Some q)
taken_read s None z e = absurd (is_read z (sym e))
taken_read s (Some q) z e = (q, refl)

no_minus : (t : List ℕ) → (first t == 45) ≡ false → skip (byte 45) t ≡ Some (tt, t)
unfolding byte
no_minus t e = rw e refl

digits_read : (t : List ℕ) (z : List ℕ × List ℕ) → digits t ≡ Some z → is_ascii_digit (first t) ≡ true
digits_read t z e = elim (cases_Bool (is_ascii_digit (first t))) [ inl digit ↦ digit | inr other ↦ absurd (is_read z (sym e ∙ none_digits t other)) ]

abbrev pub may_start_number : ℕ → Bool
may_start_number c = c == 45 || is_ascii_digit c

number_start : (t : List ℕ) (z : Unit {0} × List ℕ) → number_parts t ≡ Some z → may_start_number (first t) ≡ true
unfolding number_parts
number_start t z e =
    elim (cases_Bool (first t == 45)) [
      | inl minus ↦ rw minus refl
      | inr other ↦
          let (q, g, k) = first_read (skip (byte 45) t) (λ _. digits >>= (λ _. skip (byte 46 >> digits))) z e in
          let same : t ≡ q.1 = lefts tt q.0 t q.1 (sym (no_minus t other) ∙ g) in
          let (d, h, l) = first_read (digits q.1) (λ _. skip (byte 46 >> digits)) z k in
          rw (other, digits_read t d (ap digits same ∙ h)) refl
    ]

pub starts-number_literal : Starts may_start_number number_literal
unfolding number_literal
starts-number_literal = record { start = λ t z e. let (q, g) = taken_read t (number_parts t) z e in number_start t q g }

-- rules that begin with different bytes
pub clash-start : {A B : Type 0} (ends : List ℕ → Type 0) (P Q : ℕ → Bool) (p : Parser A) (q : Parser B) → Starts P p → Starts Q q → ((c : ℕ) → P c ≡ true → Q c ≡ true → ⊥) → Clash ends p q
clash-start ends P Q p q h k apart = λ t y x r e g here. apart (first t) (h.start t y e) (k.start t (x, r) g)
