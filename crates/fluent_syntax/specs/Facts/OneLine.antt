-- A pattern that is the text of one line.
use Rattle.std.proofs.Common.{◌≡◌, ◌==◌, ℕ, zero, suc, ◌+◌, ◌<◌, Bool, true, false, List, [], ◌∷◌, ◌++◌, length, take, drop, if◌then◌else◌, Option, Some, None, refl, ap, ◌∙◌, subst, arith, inl, inr, length-take}
use Rattle.std.proofs.lemmas.Bool.{cases_Bool, cases_lt}
use Rattle.std.proofs.lemmas.Bool.Decides.{nat_tests}
use Rattle.fluent_text.specs.Parser.{Read, Parser, many_from, run, run1, run_len, byte, first}
use Rattle.fluent_ast.specs.Tree.{Text, pattern_of}
use Rattle.fluent_text.specs.Lexical.{is_text, is_space, blank_inline, blank_block}
use Rattle.fluent_syntax.specs.Layout.{Piece, words, unless_empty, trim_spaces, lines, elements}
use Rattle.fluent_syntax.specs.Inside.Progress.{closes_pattern, LineEndsPattern}
use Rattle.fluent_syntax.specs.Pieces.{follows, is_indented, indented_text, words_after, block_text, indent, block_placeable, pattern_element, pieces, pattern}
use Rattle.fluent_syntax.specs.Expressions.{level, inline_placeable}
use Rattle.fluent_text.specs.Facts.Turns.{none, done}

-- after a run no other begins
pub stops : (p : ℕ → ℕ → Bool) (s : List ℕ) → run_len p (drop (run_len p s) s) ≡ 0
stops p [] = refl
stops p (c ∷ cs) =
    elim (cases_Bool (p c (first cs))) [
      | inl pass ↦ let n : 1 + run_len p cs ≡ suc (run_len p cs) = omega arith in rw (pass, n) (stops p cs)
      | inr stop ↦ rw (stop, stop) refl
    ]

pub not_placeable : (n : ℕ) (s : List ℕ) → (first s == 123) ≡ false → (level n).braces s ≡ None
unfolding level inline_placeable byte
not_placeable zero s e = refl
not_placeable (suc n) s e = rw e refl

no_spaces : (s : List ℕ) → (first s == 32) ≡ false → run_len is_space s ≡ 0
no_spaces [] e = refl
no_spaces (c ∷ cs) e = rw e refl

pub no_blank_inline : (s : List ℕ) → (first s == 32) ≡ false → blank_inline s ≡ None
unfolding blank_inline run1
no_blank_inline s e = rw (no_spaces s e) refl

pub no_words : (i : Option ℕ) (s : List ℕ) → run_len is_text s ≡ 0 → words_after i s ≡ None
unfolding words_after run1
no_words i s e = rw e refl

pub some_words : (s : List ℕ) → 0 < run_len is_text s → words_after None s ≡ Some (record { indent = None; bytes = take (run_len is_text s) s; fed = follows 10 (drop (run_len is_text s) s) }, drop (run_len is_text s) s)
unfolding words_after run1
some_words s n =
    let e : (run_len is_text s == 0) ≡ false = grind (arith, nat_tests) in
    rw e refl

-- nothing of the lines that follow goes on with a pattern: the next line isn't indented, and doesn't begin with a placeable
pub ends : (n : ℕ) (s line : List ℕ) (k : ℕ) → run_len is_text s ≡ 0 → (first s == 123) ≡ false → blank_block s ≡ Some (k, line) → blank_inline line ≡ None → (first line == 123) ≡ false → pattern_element (level n).braces s ≡ None
unfolding pattern_element block_text block_placeable indent
ends n s line k t b e i l = rw (no_words None s t, e, i, not_placeable n s b, e, i, not_placeable n line l) refl

-- a text of which a pattern takes nothing where it is indented
pub record Closes (t : List ℕ) : Type 0 where
  pub no_text : (m : ℕ) → indented_text m t ≡ None
  pub no_brace : (first t == 123) ≡ false

-- or the next line is indented, and then comes what belongs to no pattern
pub ends_at : (n : ℕ) (s line t : List ℕ) (k m : ℕ) → run_len is_text s ≡ 0 → (first s == 123) ≡ false → blank_block s ≡ Some (k, line) → blank_inline line ≡ Some (m, t) → Closes t → pattern_element (level n).braces s ≡ None
unfolding pattern_element block_text block_placeable indent
ends_at n s line t k m w b e i c = rw (no_words None s w, e, i, c.no_text m, not_placeable n s b, e, i, not_placeable n t c.no_brace) refl

pub stays : (p : Parser (List Piece)) (prefix : List Piece) (rest : List ℕ) → p rest ≡ None → many_from ◌++◌ p (length rest) prefix rest ≡ Some (prefix, rest)
stays p prefix rest e =
    elim (cases_lt 0 (length rest)) [
      | inl some ↦ none ◌++◌ p (length rest) prefix rest some e
      | inr empty ↦ done ◌++◌ p (length rest) prefix rest (omega arith)
    ]

pub no_feed : (b d : ℕ) → is_text b d ≡ true → (b == 10) ≡ false
no_feed b d e = grind (arith, nat_tests)

-- a text of one line is its only element
one_element : (b : ℕ) (t : Text) (fed : Bool) → (b == 10) ≡ false → elements (words (record { indent = None; bytes = b ∷ t; fed = fed }) ∷ []) ≡ unless_empty (trim_spaces (b ∷ t))
unfolding elements lines
one_element b t true e = rw e refl
one_element b t false e = rw e refl

element_of : (s : List ℕ) (fed : Bool) → 0 < run_len is_text s → elements (words (record { indent = None; bytes = take (run_len is_text s) s; fed = fed }) ∷ []) ≡ unless_empty (trim_spaces (take (run_len is_text s) s))
element_of [] fed h = absurd (omega arith)
element_of (c ∷ cs) fed h =
    elim (cases_Bool (is_text c (first cs))) [
      | inl pass ↦ let n : 1 + run_len is_text cs ≡ suc (run_len is_text cs) = omega arith in rw (pass, n) (one_element c (take (run_len is_text cs) cs) fed (no_feed c (first cs) pass))
      | inr stop ↦ let h2 = rw stop at h in absurd (omega arith)
    ]

pub one_line : (n : ℕ) (s : List ℕ) → 0 < run_len is_text s → pattern_element (level n).braces (drop (run_len is_text s) s) ≡ None
    → pattern (level n).braces s ≡ Some (pattern_of (unless_empty (trim_spaces (take (run_len is_text s) s))), drop (run_len is_text s) s)
unfolding pieces pattern_element
one_line n s h e =
    let rest = drop (run_len is_text s) s in
    let prefix = words (record { indent = None; bytes = take (run_len is_text s) s; fed = follows 10 rest }) ∷ [] in
    rw (some_words s h, stays (pattern_element (level n).braces) prefix rest e, element_of s (follows 10 rest) h) refl

text_read : Read Text → Text
text_read None = []
text_read (Some p) = p.0

rest_read : Read Text → List ℕ
rest_read None = []
rest_read (Some p) = p.1

-- the same of what a run gave
pub one_line_at : (s t rest : List ℕ) → Some (t, rest) ≡ run is_text s → 0 < length t → (first rest == 123) ≡ false → LineEndsPattern rest
    → (n : ℕ) → pattern (level n).braces s ≡ Some (pattern_of (unless_empty (trim_spaces t)), rest)
unfolding text_read rest_read
one_line_at s t rest e h b ends n =
    let m : t ≡ take (run_len is_text s) s = ap text_read e in
    let d : rest ≡ drop (run_len is_text s) s = ap rest_read e in
    let some : 0 < run_len is_text s = omega (arith, ap length m, length-take (run_len is_text s) s) in
    let none : run_len is_text rest ≡ 0 = ap (run_len is_text) d ∙ stops is_text s in
    rw (m, d) (one_line n s some (subst (λ r. pattern_element (level n).braces r ≡ None) d (ends none b n)))

no_text_at : (t : List ℕ) → (first t == 125) ≡ true → run_len is_text t ≡ 0
no_text_at [] e = refl
no_text_at (c ∷ cs) e = let stop : is_text c (first cs) ≡ false = grind (arith, nat_tests) in rw stop refl

brace_text : (m : ℕ) (t : List ℕ) → run_len is_text t ≡ 0 → (v : Bool) → (if v then words_after (Some m) t else None) ≡ None
brace_text m t e true = no_words (Some m) t e
brace_text m t e false = refl

-- a bracket, a star, a point or a closing brace
pub closes : (t : List ℕ) → closes_pattern (first t) ≡ true → Closes t
closes t e =
    elim (cases_Bool (first t == 125)) [
      | inl brace ↦ record { no_text = λ m. brace_text m t (no_text_at t brace) (is_indented t); no_brace = grind (arith, nat_tests) }
      | inr mark ↦ let marked : is_indented t ≡ false = grind (arith, nat_tests) in record { no_text = λ m. rw marked refl; no_brace = grind (arith, nat_tests) }
    ]

pub is_other : (a b : ℕ) → (a ≡ b → ⊥) → (a == b) ≡ false
is_other a b h = grind (arith, nat_tests)
