-- The lines of a text, and what a text gives after its first line.
use Rattle.std.specs.Prelude.{◌≡◌, ◌==◌, ℕ, ◌+◌, ◌<◌, suc, false, List, [], ◌∷◌, ◌++◌, length, take, drop, Option, Some, None, Result, Ok, Err}
use Rattle.std.proofs.Common.{sym, refl, ap, ◌∙◌, arith, append_assoc, inl, inr, get_or, get_or-drop, add-zero, length-drop, length-append}
use Rattle.std.proofs.lemmas.List.{append-nil, nil_from_length}
use Rattle.std.proofs.lemmas.Bool.{cases_Bool}
use Rattle.std.proofs.lemmas.Bool.Decides.{nat_tests}
use Rattle.fluent_text.specs.Facts.Runs.{run_len-stops}
use Rattle.fluent_text.specs.Parser.{Text, Read, and_then, otherwise, pure, run_len, run, run1}
use Rattle.fluent_text.specs.Lexical.{at_end}
use Rattle.fluent_plural_rules.specs.declared.rule_texts.stop.Stop.{Stop}
use Rattle.fluent_plural_rules.specs.declared.rule_texts.stop.Stop.TheVariants.{Absent, Memory}
use Rattle.fluent_plural_rules.specs.RuleTree.{Rule}
use Rattle.fluent_plural_rules.specs.RuleGrammar.{is_of_line, is_blank, is_letter, blanks, word, given, category_named, keyword, rule, lines, line, before, with_line, rules_from, rules}
use Rattle.fluent_plural_rules.specs.Inside.RuleReading.{AsksAtKeyword, AsksForRule, IsRuleless, listed}

-- rules that were read before
abbrev pub after : List Rule → Result (List Rule) ℕ → Result (List Rule) ℕ
after found (Ok more) = Ok (found ++ more)
after found (Err at) = Err at

-- the lines after the end of a line
abbrev pub later : Text → List Text
later [] = []
later (c ∷ cs) = lines cs

lines_split : (s : Text) → lines s ≡ take (run_len is_of_line s) s ∷ later (drop (run_len is_of_line s) s)
lines_split [] = refl
lines_split (c ∷ cs) =
    elim (cases_Bool (is_of_line c 0)) [
      | inl pass ↦ let e : 1 + run_len is_of_line cs ≡ suc (run_len is_of_line cs) = omega arith in rw (pass, lines_split cs, e) refl
      | inr stop ↦ rw stop refl
    ]

-- the lines of a text that was cut at the end of its first
lines_of_cut : Read Text → List Text
lines_of_cut None = []
lines_of_cut (Some p) = p.0 ∷ later p.1

cut : (s prefix past : Text) → run is_of_line s ≡ Some (prefix, past) → lines s ≡ prefix ∷ later past
unfolding lines_of_cut
cut s prefix past e = lines_split s ∙ ap lines_of_cut e

-- the first line, and what those after it give
first_line : (at : ℕ) (s prefix past : Text) → run is_of_line s ≡ Some (prefix, past)
    → rules_from at (lines s) ≡ with_line at prefix (line prefix) (rules_from (at + length prefix + 1) (later past))
unfolding rules_from
first_line at s prefix past e = ap (rules_from at) (cut s prefix past e)

from_nothing : (r : Result (List Rule) ℕ) → r ≡ after [] r
from_nothing (Ok more) = refl
from_nothing (Err at) = refl

grown : (found : List Rule) (o : Option Rule) (r : Result (List Rule) ℕ) → after found (before o r) ≡ after (found ++ listed o) r
grown found None (Ok more) = ap (λ xs. Ok (xs ++ more)) (sym (append-nil found))
grown found (Some x) (Ok more) = ap Ok (sym (append_assoc found (x ∷ []) more))
grown found None (Err at) = refl
grown found (Some x) (Err at) = refl

-- nothing was read before the first line
pub starts : (s : Text) (at : ℕ) → at ≡ 0 → rules s ≡ after [] (rules_from at (lines s))
unfolding rules
starts s at e = rw e (from_nothing (rules_from 0 (lines s)))

-- the first line can't be read
pub refused : (whole : Result (List Rule) ℕ) (found : List Rule) (at : ℕ) (s prefix past : Text)
    → whole ≡ after found (rules_from at (lines s)) → run is_of_line s ≡ Some (prefix, past) → line prefix ≡ None → whole ≡ Err (at + run_len is_blank prefix)
refused whole found at s prefix past w e none = w ∙ ap (after found) (first_line at s prefix past e) ∙ rw none refl

-- the first line is read
kept : (whole : Result (List Rule) ℕ) (found : List Rule) (at : ℕ) (s prefix past : Text) (p : Option Rule × Text)
    → whole ≡ after found (rules_from at (lines s)) → run is_of_line s ≡ Some (prefix, past) → line prefix ≡ Some p
    → whole ≡ after (found ++ listed p.0) (rules_from (at + length prefix + 1) (later past))
kept whole found at s prefix past p w e some =
    let others = rules_from (at + length prefix + 1) (later past) in
    w ∙ ap (after found) (first_line at s prefix past e) ∙ ap (λ r. after found (with_line at prefix r others)) some ∙ grown found p.0 others

-- it is the last one
pub last : (whole : Result (List Rule) ℕ) (found longer : List Rule) (at : ℕ) (s prefix past : Text) (p : Option Rule × Text)
    → whole ≡ after found (rules_from at (lines s)) → run is_of_line s ≡ Some (prefix, past) → line prefix ≡ Some p → longer ≡ found ++ listed p.0
    → past ≡ [] → whole ≡ Ok longer
unfolding rules_from
last whole found longer at s prefix past p w e some l end =
    kept whole found at s prefix past p w e some
    ∙ ap (λ b. after (found ++ listed p.0) (rules_from (at + length prefix + 1) (later b))) end
    ∙ ap Ok (append-nil (found ++ listed p.0) ∙ sym l)

later_some : (s : Text) → 0 < length s → later s ≡ lines (drop 1 s)
later_some [] h = absurd (omega arith)
later_some (c ∷ cs) h = refl

-- others follow it
pub goes_on : (whole : Result (List Rule) ℕ) (found longer : List Rule) (at next_at : ℕ) (s prefix past next : Text) (p : Option Rule × Text)
    → whole ≡ after found (rules_from at (lines s)) → run is_of_line s ≡ Some (prefix, past) → line prefix ≡ Some p → longer ≡ found ++ listed p.0
    → 0 < length past → next ≡ drop 1 past → next_at ≡ at + length prefix + 1 → whole ≡ after longer (rules_from next_at (lines next))
goes_on whole found longer at next_at s prefix past next p w e some l more n a =
    rw (l, a, n, ← later_some past more) (kept whole found at s prefix past p w e some)

-- the rest of a text that was cut
rest_of_cut : Read Text → Text
rest_of_cut None = []
rest_of_cut (Some p) = p.1

ascii_end : (b next : ℕ) → is_of_line b next ≡ false → (0 < b) × (b < 128)
ascii_end b next e = (grind (arith, nat_tests), grind (arith, nat_tests))

-- the byte that ends a line is ASCII
pub ends_at : (s prefix past : Text) → run is_of_line s ≡ Some (prefix, past) → 0 < length past → (0 < get_or past 0 0) × (get_or past 0 0 < 128)
unfolding rest_of_cut
ends_at s prefix past e some =
    let k = run_len is_of_line s in
    let same : drop k s ≡ past = ap rest_of_cut e in
    let here : get_or (drop k s) 0 0 ≡ get_or s k 0 = rw (get_or-drop k s 0 0, add-zero) refl in
    let within : k < length s = omega (arith, length-drop k s, ap length same) in
    rw (← same, here) (ascii_end (get_or s k 0) (get_or s (suc k) 0) (run_len-stops is_of_line s within))

-- ---- lines without a rule

what_was_read : Read (Option Rule) → Option Rule
what_was_read None = None
what_was_read (Some p) = p.0

nothing_after : (r : Option Rule) (s rest : Text) → and_then (at_end s) (λ _ u. Some (r, u)) ≡ Some (None, rest) → (r ≡ None) × (s ≡ [])
unfolding what_was_read
nothing_after r s rest h =
    elim (cases_Bool (length s == 0)) [
      | inl pass ↦ (ap what_was_read (rw pass at h), nil_from_length s (grind (arith, nat_tests)))
      | inr stop ↦ let none = rw stop at h in absurd cc
    ]

blank : (r : Read Rule) (s rest : Text)
    → and_then (otherwise (and_then r (λ x u. Some (Some x, u))) (pure None) s) (λ o u. and_then (blanks u) (λ _ v. and_then (at_end v) (λ _ w. Some (o, w)))) ≡ Some (None, rest)
    → drop (run_len is_blank s) s ≡ []
blank None s rest h = (nothing_after None (drop (run_len is_blank s) s) rest h).1
blank (Some q) s rest h = absurd (let none : Some q.0 ≡ None = (nothing_after (Some q.0) (drop (run_len is_blank q.1) q.1) rest h).0 in cc)

no_keyword : (s rest : Text) → line s ≡ Some (None, rest) → keyword s ≡ None
unfolding line keyword word run1
no_keyword s rest h = ap (λ t. and_then (run1 is_letter t) (λ w u. given (category_named w) u)) (blank (rule s) s rest h)

-- a line with a keyword has a rule, if it is read
pub at_keyword : (s : Text) (stop : Stop) → AsksAtKeyword stop s → AsksForRule stop (line s)
at_keyword s Absent some = tt
at_keyword s Memory some = λ h. some (no_keyword s h.0 h.1)

no_first : (found more : List Rule) (r : Rule) → ¬ (found ++ r ∷ more ≡ [])
no_first found more r h = let e = ap length h in absurd (omega (arith, e, length-append found (r ∷ more)))

rules_of : Result (List Rule) ℕ → List Rule
rules_of (Ok found) = found
rules_of (Err at) = []

without : (found : List Rule) (o : Option Rule) (others : Result (List Rule) ℕ) → after found (before o others) ≡ Ok [] → o ≡ None
unfolding rules_of
without found None others h = refl
without found (Some r) (Ok more) h = absurd (no_first found more r (ap rules_of h))
without found (Some r) (Err at) h = absurd cc

first_without : (found : List Rule) (at : ℕ) (prefix : Text) (r : Read (Option Rule)) (others : Result (List Rule) ℕ) → after found (with_line at prefix r others) ≡ Ok [] → IsRuleless r
first_without found at prefix None others h = absurd cc
first_without found at prefix (Some p) others h = (p.1, ap (λ o. Some (o, p.1)) (without found p.0 others h))

-- no line of a text without rules has one
pub ruleless : (whole : Result (List Rule) ℕ) (found : List Rule) (at : ℕ) (s prefix past : Text)
    → whole ≡ after found (rules_from at (lines s)) → run is_of_line s ≡ Some (prefix, past) → whole ≡ Ok [] → IsRuleless (line prefix)
ruleless whole found at s prefix past w e none = first_without found at prefix (line prefix) _ (ap (after found) (sym (first_line at s prefix past e)) ∙ sym w ∙ none)
