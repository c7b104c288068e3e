-- How far the text of a line goes: to the first line feed or brace, or to a carriage return before it.
use Rattle.std.proofs.Common.{◌≡◌, ◌==◌, ℕ, suc, ◌-◌, ◌<◌, ◌≤◌, Bool, true, false, cond, List, [], ◌∷◌, length, get_or, refl, sym, ap, ◌∙◌, arith, inl, inr}
use Rattle.std.proofs.lemmas.Bool.{cases_Bool, cases_lt}
use Rattle.std.proofs.lemmas.Bool.Decides.{nat_tests}
use Rattle.std.proofs.lemmas.List.{get_or_past}
use Rattle.memchr.specs.Find.{Nowhere, Passes, is_byte3}
use Rattle.fluent_text.specs.Parser.{first, run_len}
use Rattle.fluent_text.specs.Lexical.{is_text}
use Rattle.fluent_text.specs.Facts.Runs.{run_len-le, run_len-stops, run_len-passes}

pub not_both : (a : Bool) → a ≡ true → a ≡ false → ⊥
not_both a e f = absurd (omega (arith, ap as_number (sym e ∙ f)))
  where
    as_number : Bool → ℕ
    as_number b = cond b 1 0

-- a run is as long as its bytes pass
pub run_len-is : (p : ℕ → ℕ → Bool) (s : List ℕ) (m : ℕ) → m ≤ length s → ((j : ℕ) → j < m → p (get_or s j 0) (get_or s (suc j) 0) ≡ true) → (m < length s → p (get_or s m 0) (get_or s (suc m) 0) ≡ false) → run_len p s ≡ m
run_len-is p s m within pass stop =
    elim (cases_lt (run_len p s) m) [
      | inl less ↦ absurd (not_both _ (pass (run_len p s) less) (run_len-stops p s (omega arith)))
      | inr more ↦ elim (cases_lt m (run_len p s)) [
        | inl longer ↦ absurd (not_both _ (run_len-passes p s m longer) (stop (omega (arith, run_len-le p s))))
        | inr same ↦ omega arith
      ]
    ]

abbrev pub Before : List ℕ → ℕ → Type 0
Before s m = Nowhere (Passes (is_byte3 10 123 125) s) 0 m

-- no line feed and no brace
plain_byte : (s : List ℕ) (m k : ℕ) → Before s m → k < m → is_byte3 10 123 125 (get_or s k 0) ≡ false
plain_byte s m k none h =
    elim (cases_Bool (is_byte3 10 123 125 (get_or s k 0))) [
      | inl hit ↦ absurd (none k (omega arith) h hit)
      | inr miss ↦ miss
    ]

passes : (c d : ℕ) → is_byte3 10 123 125 c ≡ false → (d == 10) ≡ false → is_text c d ≡ true
passes c d e f = grind (arith, nat_tests)

passes_alone : (c d : ℕ) → is_byte3 10 123 125 c ≡ false → (c == 13) ≡ false → is_text c d ≡ true
passes_alone c d e f = grind (arith, nat_tests)

not_feed : (c : ℕ) → is_byte3 10 123 125 c ≡ false → (c == 10) ≡ false
not_feed c e = grind (arith, nat_tests)

-- what is followed by another byte before the end of the run
inside : (s : List ℕ) (m j : ℕ) → Before s m → suc j < m → is_text (get_or s j 0) (get_or s (suc j) 0) ≡ true
inside s m j none h = passes (get_or s j 0) (get_or s (suc j) 0) (plain_byte s m j none (omega arith)) (not_feed (get_or s (suc j) 0) (plain_byte s m (suc j) none h))

-- nothing ends the text
pub text_to_end : (s : List ℕ) → Before s (length s) → length s ≡ run_len is_text s
text_to_end s none = sym (run_len-is is_text s (length s) (omega arith) each (λ h. absurd (omega arith)))
  where
    each : (j : ℕ) → j < length s → is_text (get_or s j 0) (get_or s (suc j) 0) ≡ true
    each j h =
        elim (cases_lt (suc j) (length s)) [
          | inl more ↦ inside s (length s) j none more
          | inr last ↦ passes (get_or s j 0) (get_or s (suc j) 0) (plain_byte s (length s) j none h) (let past = get_or_past s (suc j) 0 last in grind (arith, nat_tests))
        ]

stops_at : (c d : ℕ) → is_byte3 10 123 125 c ≡ true → is_text c d ≡ false
stops_at c d e = grind (arith, nat_tests)

-- a byte that ends the text, with no carriage return before a line feed
pub text_to : (s : List ℕ) (m : ℕ) → m < length s → Before s m → is_byte3 10 123 125 (get_or s m 0) ≡ true → ((j : ℕ) → suc j ≡ m → is_text (get_or s j 0) (get_or s m 0) ≡ true) → m ≡ run_len is_text s
text_to s m within none hit last = sym (run_len-is is_text s m (omega arith) each (λ h. stops_at (get_or s m 0) (get_or s (suc m) 0) hit))
  where
    each : (j : ℕ) → j < m → is_text (get_or s j 0) (get_or s (suc j) 0) ≡ true
    each j h =
        elim (cases_lt (suc j) m) [
          | inl more ↦ inside s m j none more
          | inr at ↦ let e : suc j ≡ m = omega arith in ap (λ k. is_text (get_or s j 0) (get_or s k 0)) e ∙ last j e
        ]

-- it stands at the start
pub text_none : (s : List ℕ) (m : ℕ) → m ≡ 0 → m < length s → Before s m → is_byte3 10 123 125 (get_or s m 0) ≡ true → m ≡ run_len is_text s
text_none s m z within none hit = text_to s m within none hit (λ j e. absurd (omega arith))

-- it is no line feed
pub text_to_brace : (s : List ℕ) (m : ℕ) → (get_or s m 0 == 10) ≡ false → m < length s → Before s m → is_byte3 10 123 125 (get_or s m 0) ≡ true → m ≡ run_len is_text s
text_to_brace s m brace within none hit = text_to s m within none hit (λ j e. passes (get_or s j 0) (get_or s m 0) (plain_byte s m j none (omega arith)) brace)

-- it has no carriage return before it
pub text_to_feed : (s : List ℕ) (m : ℕ) → 0 < m → (get_or s (m - 1) 0 == 13) ≡ false → m < length s → Before s m → is_byte3 10 123 125 (get_or s m 0) ≡ true → m ≡ run_len is_text s
text_to_feed s m some alone within none hit =
    text_to s m within none hit (λ j e. let at : m - 1 ≡ j = omega arith in passes_alone (get_or s j 0) (get_or s m 0) (plain_byte s m j none (omega arith)) (ap (λ k. get_or s k 0 == 13) (sym at) ∙ alone))

stops_return : (c d : ℕ) → (c == 13) ≡ true → (d == 10) ≡ true → is_text c d ≡ false
stops_return c d e f = grind (arith, nat_tests)

-- a carriage return and a line feed
pub text_to_return : (s : List ℕ) (m : ℕ) → 0 < m → (get_or s (m - 1) 0 == 13) ≡ true → (get_or s m 0 == 10) ≡ true → m < length s → Before s m → m - 1 ≡ run_len is_text s
text_to_return s m some return feed within none =
    let at : suc (m - 1) ≡ m = omega arith in
    sym (run_len-is is_text s (m - 1) (omega arith) (λ j h. inside s m j none (omega arith)) (λ h. stops_return (get_or s (m - 1) 0) (get_or s (suc (m - 1)) 0) return (ap (λ k. get_or s k 0 == 10) at ∙ feed)))

brace_stops : (d : ℕ) → is_text 123 d ≡ false
brace_stops d = refl

feed_stops : (d : ℕ) → is_text 10 d ≡ false
feed_stops d = refl

-- the prefix is no text
pub text_never : (s : List ℕ) (k : ℕ) → first s ≡ k → ((d : ℕ) → is_text k d ≡ false) → 0 ≡ run_len is_text s
text_never [] k e stop = refl
text_never (c ∷ cs) k e stop = let at : is_text c (first cs) ≡ false = ap (λ b. is_text b (first cs)) e ∙ stop (first cs) in rw at refl

pub text_at_brace : (s : List ℕ) → first s ≡ 123 → 0 ≡ run_len is_text s
text_at_brace s e = text_never s 123 e brace_stops

pub text_at_feed : (s : List ℕ) → first s ≡ 10 → 0 ≡ run_len is_text s
text_at_feed s e = text_never s 10 e feed_stops
