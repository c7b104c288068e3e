-- Where words and their indents end.
use Rattle.std.proofs.Common.{◌≡◌, ℕ, ◌+◌, ◌<◌, ◌≤◌, Bool, false, ◌==◌, List, length, get_or, take, drop, IsUtf8, sym, ap, ◌∙◌, subst, arith, get_or-drop, Some, Option, eqb-true, drop-drop, length-take-le}
use Rattle.std.proofs.lemmas.Bool.Decides.{nat_tests}
use Rattle.std.proofs.lemmas.List.{drop-take}
use Rattle.std.proofs.lemmas.Str.{IsCharBoundary-after_ascii, IsCharBoundary-from_rest}
use Rattle.std.specs.Str.{IsCharBoundary}
use Rattle.fluent_text.specs.Parser.{run_len, run, run1}
use Rattle.fluent_syntax.specs.Inside.Reading.{IsIndent}
use Rattle.fluent_text.specs.Lexical.{is_space, is_text}
use Rattle.fluent_syntax.specs.Pieces.{follows, words_after}
use Rattle.fluent_text.specs.Facts.Runs.{boundary-wide, run_len-le, run_len-passes, within_from_byte}

-- the end of a text after an indent
pub boundary-after : (line text : List ℕ) (n m len : ℕ) → text ≡ drop n line → n ≤ length line → m ≡ n → IsUtf8 text → len ≡ run_len is_text text → IsCharBoundary line (m + len)
boundary-after line text n m len e w em u l =
    let b = boundary-wide is_text text (λ c d h. grind (arith, nat_tests)) in
    let P : List ℕ → Type 0 = λ x. IsCharBoundary x len in
    rw em (IsCharBoundary-from_rest line n len w (subst P e (rw l b)))

-- the place after a line feed that follows a prefix of the line
pub boundary-feed : (line whole rest : List ℕ) (k : ℕ) → IsUtf8 line → k ≤ length line → whole ≡ take k line → rest ≡ drop k line → get_or rest 0 0 ≡ 10 → IsCharBoundary line (length whole + 1)
boundary-feed line whole rest k u w ew er h =
    let lw : length whole ≡ k = ap length ew ∙ length-take-le k line w in
    let z : k + 0 ≡ k = omega arith in
    let P : ℕ → Type 0 = λ x. get_or line x 0 ≡ 10 in
    let at : get_or line k 0 ≡ 10 = subst P z (sym (get_or-drop k line 0 0) ∙ (ap (λ x. get_or x 0 0) (sym er) ∙ h)) in
    let some : 0 < get_or line k 0 = omega arith in
    rw lw (IsCharBoundary-after_ascii line k u (within_from_byte line k some) (omega arith))

pub indent_is : (s prefix rest : List ℕ) → run is_space s ≡ Some (prefix, rest) → IsIndent s (length prefix) rest
indent_is s prefix rest e =
    let both : ◌≡◌ {A = List ℕ × List ℕ} (take (run_len is_space s) s, drop (run_len is_space s) s) (prefix, rest) = cc in
    let f : take (run_len is_space s) s ≡ prefix = ap (λ p. p.0) both in
    let r : drop (run_len is_space s) s ≡ rest = ap (λ p. p.1) both in
    let l : length prefix ≡ run_len is_space s = ap length (sym f) ∙ length-take-le (run_len is_space s) s (run_len-le is_space s) in
    record {
      len = l;
      within = omega (arith, run_len-le is_space s);
      spaces = λ k h. eqb-true (get_or s k 0) 32 (run_len-passes is_space s k (omega arith));
      follows = rw l (sym r);
    }

pub words_after-is : (indent : Option ℕ) (line text whole rest : List ℕ) (n len : ℕ) (fed : Bool) → text ≡ drop n line → len ≡ run_len is_text text → 0 < len
    → whole ≡ take (n + len) line → rest ≡ drop (n + len) line → fed ≡ follows 10 rest
    → Some (record { indent = indent; bytes = drop n whole; fed = fed }, rest) ≡ words_after indent text
unfolding words_after run1
words_after-is indent line text whole rest n len fed et el some ew er ef =
    let b : drop n whole ≡ take (run_len is_text text) text = ap (drop n) ew ∙ (drop-take n len line ∙ (ap (take len) (sym et) ∙ ap (λ x. take x text) el)) in
    let r : rest ≡ drop (run_len is_text text) text = er ∙ (sym (drop-drop len n line) ∙ (ap (drop len) (sym et) ∙ ap (λ x. drop x text) el)) in
    let test : (run_len is_text text == 0) ≡ false = grind (arith, nat_tests) in
    rw (test, b, ef, r)
