-- The parts of a quoted text, one after the other.
use Rattle.std.proofs.Common.{◌≡◌, ◌≢◌, ℕ, zero, suc, ◌-◌, ◌<◌, ◌==◌, List, [], ◌∷◌, ◌++◌, length, take, drop, Option, Some, None, ap, sym, ◌∙◌, append_assoc, append-nil, length-drop, arith, refl, nat_lt, true, false, Bool, Result, Ok, Err, OnErr, inl, inr}
use Rattle.std.specs.Io.KnownBytes.{Appends}
use Rattle.std.proofs.lemmas.Bool.Decides.{nat_tests}
use Rattle.fluent_text.specs.Parser.{Text, Read, Parser, many_from, turn, go_on, run, run1, run_len, byte}
use Rattle.fluent_text.specs.Taken.{LeftSome, TookPrefix}
use Rattle.fluent_text.specs.Lexical.{is_plain}
use Rattle.fluent_text.specs.Escapes.{value_of, part, unescaped}
use Rattle.fluent_text.proofs.Prefix.{appends_twice}
use Rattle.fluent_text.specs.Facts.Runs.{run_len-stops}
use Rattle.std.specs.List.{All}
use Rattle.std.proofs.lemmas.List.{take_all}
use Rattle.std.proofs.lemmas.Bool.{cases_lt}
use Rattle.fluent_text.specs.Facts.Turns.{more}

-- what is added to a text stays after it
abbrev pub Grows : (Text → Parser Text) → Type 0
Grows step = (acc : Text) (s : List ℕ) → (rest : Text) × (value_of (step acc s) ≡ acc ++ rest)

gone : (step : Text → Parser Text) → Grows step → (acc : Text) (s : List ℕ) (p : Text × List ℕ) (b : Bool) → (rest : Text) × (value_of (go_on ◌++◌ step acc s p b) ≡ acc ++ rest)
gone step h acc s p false = ([], sym (append-nil acc))
gone step h acc s p true = let next = h (acc ++ p.0) p.1 in (p.0 ++ next.0, next.1 ∙ append_assoc acc p.0 next.0)

turned : (step : Text → Parser Text) → Grows step → (acc : Text) (s : List ℕ) (r : Read Text) → (rest : Text) × (value_of (turn ◌++◌ step acc s r) ≡ acc ++ rest)
turned step h acc s None = ([], sym (append-nil acc))
turned step h acc s (Some p) = gone step h acc s p (nat_lt (length p.1) (length s))

pub grows : (p : Parser Text) (k : ℕ) → Grows (many_from ◌++◌ p k)
unfolding many_from
grows p zero = λ acc s. ([], sym (append-nil acc))
grows p (suc k) = let h = grows p k in λ acc s. turned (many_from ◌++◌ p k) h acc s (p s)

-- a beginning of one part more is a beginning of the whole
pub began : (whole prefix piece : Text) (k : ℕ) (s rest : List ℕ) (old mid new : Option (List ℕ)) → whole ≡ value_of (many_from ◌++◌ part k (prefix ++ piece) rest)
    → Appends old mid prefix → TookPrefix mid new piece → TookPrefix old new whole
began whole prefix piece k s rest old mid new e a t =
    let g = grows part k (prefix ++ piece) rest in (
      prefix ++ t.0,
      t.1 ++ g.0,
      e ∙ (g.1 ∙ (ap (λ w. (prefix ++ w) ++ g.0) t.2 ∙ (ap (λ w. w ++ g.0) (sym (append_assoc prefix t.0 t.1)) ∙ append_assoc (prefix ++ t.0) t.1 g.0))),
      appends_twice old mid new prefix t.0 a t.3,
    )

some_more : (xs ys : List ℕ) → xs ≢ [] → xs ++ ys ≢ []
some_more [] ys some = absurd (some refl)
some_more (x ∷ xs) ys some = λ none. absurd cc

-- and what is left of the part is left of the whole
pub left_of : (whole prefix piece : Text) (k : ℕ) (s rest : List ℕ) (old mid new : Option (List ℕ)) → whole ≡ value_of (many_from ◌++◌ part k (prefix ++ piece) rest)
    → Appends old mid prefix → LeftSome mid new piece → LeftSome old new whole
unfolding began
left_of whole prefix piece k s rest old mid new e a t =
    let b = began whole prefix piece k s rest old mid new e a (t.0, t.1, t.3, t.4) in
    (b.0, b.1, some_more t.1 (grows part k (prefix ++ piece) rest).0 t.2, b.2, b.3)

pub on_err : {T E : Type 0} (r : Result T E) (P : Type 0) → P → OnErr r P
on_err (Ok x) P p = tt
on_err (Err e) P p = p

nothing_left : (s : List ℕ) → length s ≡ 0 → s ≡ []
nothing_left [] h = refl
nothing_left (b ∷ s) h = absurd (omega arith)

at_end : (acc : Text) (k : ℕ) → many_from ◌++◌ part k acc [] ≡ Some (acc, [])
unfolding many_from part run1 byte
at_end acc zero = refl
at_end acc (suc k) = refl

-- a text without a backslash is what it means
pub plain_alone : (t prefix rest : Text) → run is_plain t ≡ Some (prefix, rest) → length rest ≡ 0 → prefix ≡ unescaped t
unfolding part run1 many_from
plain_alone [] prefix rest e h = let f : ◌≡◌ {A = Text × Text} ([], []) (prefix, rest) = cc in ap (λ p. p.0) (sym f)
plain_alone (b ∷ t) prefix rest e h =
    let n = run_len is_plain (b ∷ t) in
    let both : ◌≡◌ {A = Text × Text} (take n (b ∷ t), drop n (b ∷ t)) (prefix, rest) = cc in
    let r : drop n (b ∷ t) ≡ rest = ap (λ p. p.1) both in
    let l : length (b ∷ t) - n ≡ 0 = sym (length-drop n (b ∷ t)) ∙ (ap length r ∙ h) in
    let some : 0 < length (b ∷ t) = omega arith in
    let test : (n == 0) ≡ false = grind (arith, nat_tests, some, l) in
    let one : part (b ∷ t) ≡ Some (prefix, rest) = rw test (rw e) in
    let shorter : length rest < length (b ∷ t) = omega arith in
    let turns = more ◌++◌ part (length (b ∷ t)) (length t) [] (b ∷ t) prefix rest refl one shorter in
    sym (ap value_of (turns ∙ (ap (λ w. many_from ◌++◌ part (length t) prefix w) (nothing_left rest h) ∙ at_end prefix (length t))))

parted : (t prefix rest : Text) → run is_plain t ≡ Some (prefix, rest) → ◌≡◌ {A = Text × Text} (take (run_len is_plain t) t, drop (run_len is_plain t) t) (prefix, rest)
parted t prefix rest e = cc

-- a text without a backslash is one run
pub all_plain : (t prefix rest : Text) → run is_plain t ≡ Some (prefix, rest) → All (λ c. c ≢ 92) t → length rest ≡ 0
all_plain t prefix rest e h =
    let n = run_len is_plain t in
    let r : drop n t ≡ rest = ap (λ p. p.1) (parted t prefix rest e) in
    let l : length t - n ≡ length rest = sym (length-drop n t) ∙ ap length r in
    elim (cases_lt n (length t)) [
      | inl less ↦ let stop = run_len-stops is_plain t less in let other = h n 0 less in absurd (grind (arith, nat_tests, stop, other))
      | inr past ↦ omega arith
    ]

-- and that run is the text
pub whole_run : (t prefix rest : Text) → run is_plain t ≡ Some (prefix, rest) → length rest ≡ 0 → prefix ≡ t
whole_run t prefix rest e h =
    let n = run_len is_plain t in
    let both = parted t prefix rest e in
    let r : drop n t ≡ rest = ap (λ p. p.1) both in
    let l : length t - n ≡ 0 = sym (length-drop n t) ∙ (ap length r ∙ h) in
    sym (ap (λ p. p.0) both) ∙ take_all n t (omega arith)
