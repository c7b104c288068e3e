-- Patterns, variants and placeables are read by the prefix that they take, whatever stands after it.
use Rattle.std.proofs.Common.{◌≡◌, ◌==◌, ◌||◌, ◌&&◌, ℕ, zero, suc, ◌+◌, Bool, true, false, List, [], ◌∷◌, ◌++◌, length, take, drop, Option, Some, None, if◌then◌else◌, refl, sym, ap, ◌∙◌, subst, arith, eqb-true, ◌⊎◌, inl, inr}
use Rattle.std.specs.Prelude.{not, unwrap_or}
use Rattle.std.proofs.lemmas.Bool.{cases_Bool}
use Rattle.std.proofs.lemmas.Bool.Decides.{nat_tests}
use Rattle.fluent_ast.specs.Tree.{Variant, Inline, Expression, inline, select, variants_of, pattern_of}
use Rattle.fluent_text.specs.Parser.{Read, Parser, ◌>>=◌, ◌>>◌, ◌<$>◌, ◌<|>◌, and_then, otherwise, pure, skip, optional, many_from, turn, count, one_more, push, run_len, run, run1, byte, first}
use Rattle.fluent_text.specs.Lexical.{is_text, is_space, blank_inline, line_end, blank_line, blank_block, blank}
use Rattle.fluent_syntax.specs.Layout.{Words, Piece, line, words, hole, elements}
use Rattle.fluent_syntax.specs.Pieces.{words_after, inline_text, is_indented, indented_text, block_text, indent, block_placeable, pattern_element, pieces, pattern}
use Rattle.fluent_syntax.specs.Expressions.{Level, level, provided, inline_expression, variant_key, star, variant_head, variant, variant_list, is_selector, arrow, selector, select_expression, stands_alone, alone, expression, inline_placeable}
use Rattle.fluent_grammar_laws.specs.PrefixLaws.{ReadByPrefixAlone}
use Rattle.fluent_syntax.specs.Facts.Prefixes.{TakesTo}
use Rattle.fluent_grammar_laws.proofs.Near.{closes, Near, Shuts, near-byte, near-then, near-pure, near-map, near-or, near-if, sees_first, shuts-map, shuts-run1, is_read}
use Rattle.fluent_grammar_laws.proofs.NearRules.{heedless-text, near-words_after, near-variant_head, near-line_end, near-blank_inline, near-blanks, near-spaces, shuts-blank_inline, shuts-bind}
use Rattle.fluent_grammar_laws.proofs.Known.{After, Closed, closed_after, Stops, Anywhere, kept, lefts, Clash, way-shut, way-clash, never, Enters, enters-closed, Closing, closing-bind, Fixed, fixed-near, fixed-weaker, fixed-any, fixed-bind, fixed-then, fixed-map, fixed-sift, fixed-byte, fixed-refuse, fixed-or, fixed-many}
use Rattle.fluent_grammar_laws.proofs.Leads.{first_read, either_read, true_false, fails_at, is_blank, next, next_first, keep_of, keeps-bind, keeps-pure, keeps-blanks, keeps-blank_inline, keeps-blank_block, keeps-indent, keeps-line_end, line_end_text, line_end_brace, Leads, leads-bind, leads-keep, leads-byte, Starts, starts-bind, starts-byte}
use Rattle.fluent_syntax.specs.Facts.OneLine.{no_blank_inline, stops}
use Rattle.fluent_grammar_laws.proofs.KnownRules.{Ahead, End, is, ends_inline, ahead, way-end, Firm, closed_end, closed_closed, inline_end, fixed-inline, closed_by, fixed-closed_by, closing-closed_by, leads-closed_by, fixed-call_arguments, leads-call_arguments}

-- ---- single texts

pub text_read : (s : List ℕ) (b : Bool) (z : List ℕ × List ℕ) → ◌≡◌ {A = Read (List ℕ)} (if b then None else run is_text s) (Some z) → b ≡ false
text_read s true z e = absurd (is_read z (sym e))
text_read s false z e = refl

pub words_some : (i : Option ℕ) (s : List ℕ) (z : Words × List ℕ) → words_after i s ≡ Some z → (run_len is_text s == 0) ≡ false
unfolding words_after run1
words_some i s z e = let (q, f, k) = first_read (run1 is_text s) _ z e in text_read s (run_len is_text s == 0) q f

-- no text is at a line end
line_end_words : (i : Option ℕ) (s : List ℕ) (q : Unit {0} × List ℕ) (z : Words × List ℕ) → line_end s ≡ Some q → words_after i s ≡ Some z → ⊥
line_end_words i s q z e f = let n = line_end_text s q e in let w = words_some i s z f in true_false (run_len is_text s == 0) (ap (λ k. k == 0) n) w

pub indented_read : (n : ℕ) (s : List ℕ) (b : Bool) (z : Words × List ℕ) → ◌≡◌ {A = Read Words} (if b then words_after (Some n) s else None) (Some z) → (b ≡ true) × (words_after (Some n) s ≡ Some z)
indented_read n s true z e = (refl, e)
indented_read n s false z e = absurd (is_read z (sym e))

near-indented : (n : ℕ) → Near (indented_text n)
near-indented n = near-if is_indented (words_after (Some n)) (sees_first (λ c. (not (c == 91) && not (c == 42)) && not (c == 46))) (near-words_after (Some n))

near-blank_line : Near blank_line
unfolding blank_line
near-blank_line = near-then (skip blank_inline) line_end near-spaces near-line_end

near-indent : Near indent
unfolding indent
near-indent = near-map _ (optional blank_inline) (near-or (Some <$> blank_inline) (pure None) (near-map Some blank_inline near-blank_inline) (shuts-map Some blank_inline shuts-blank_inline) (near-pure None))

-- what is left after spaces
unfoldable pub spaced : List ℕ → Read ℕ → List ℕ
spaced s None = s
spaced s (Some q) = q.1

-- a blank line begins with spaces, or none
pub line_after : (s : List ℕ) (y : Unit {0} × List ℕ) (r : Read ℕ) → blank_inline s ≡ r → blank_line s ≡ Some y → line_end (spaced s r) ≡ Some y
unfolding blank_line spaced
line_after s y None e f = sym (ap (λ b. and_then (otherwise (and_then b (λ _. pure (tt {0}))) (pure (tt {0})) s) (λ _. line_end)) e) ∙ f
line_after s y (Some q) e f = sym (ap (λ b. and_then (otherwise (and_then b (λ _. pure (tt {0}))) (pure (tt {0})) s) (λ _. line_end)) e) ∙ f

abbrev pub block_rest : ℕ → Parser (ℕ × Words)
block_rest ends = blank_inline >>= (λ n. indented_text n >>= (λ w. pure (ends, w)))

-- where an indented text is, no blank line is
pub text_line : (ends : ℕ) (s : List ℕ) (y : Unit {0} × List ℕ) (z : (ℕ × Words) × List ℕ) → block_rest ends s ≡ Some z → blank_line s ≡ Some y → ⊥
unfolding spaced
text_line ends s y z e f =
    let (q, g, k) = first_read (blank_inline s) _ z e in
    let (t, i, j) = first_read (indented_text q.0 q.1) _ z k in
    line_end_words (Some q.0) q.1 y t (line_after s y (Some q) g f) (indented_read q.0 q.1 (is_indented q.1) t i).1

abbrev pub placeable_rest : Parser Expression → ℕ → Parser (List Piece)
placeable_rest b ends = indent >>= (λ w. b >>= (λ x. pure (line ends ∷ words w ∷ hole x ∷ [])))

-- what an indent leaves
indent_after : (s : List ℕ) (r : Read ℕ) (z : Words × List ℕ) → blank_inline s ≡ r → indent s ≡ Some z → spaced s r ≡ z.1
unfolding indent spaced
indent_after s None z e f = lefts _ z.0 s z.1 (sym (ap (λ b. and_then (otherwise (and_then b (λ x. pure (Some x))) (pure None) s) (λ n. pure (record { indent = Some (unwrap_or n 0); bytes = []; fed = false }))) e) ∙ f)
indent_after s (Some q) z e f = lefts _ z.0 q.1 z.1 (sym (ap (λ b. and_then (otherwise (and_then b (λ x. pure (Some x))) (pure None) s) (λ n. pure (record { indent = Some (unwrap_or n 0); bytes = []; fed = false }))) e) ∙ f)

abbrev pub text_piece : Parser (List Piece)
text_piece = (λ w. words w ∷ []) <$> inline_text

abbrev pub block_piece : Parser (List Piece)
block_piece = (λ p. line p.0 ∷ words p.1 ∷ []) <$> block_text

abbrev pub hole_piece : Parser Expression → Parser (List Piece)
hole_piece b = (λ x. hole x ∷ []) <$> b

shuts-words : (i : Option ℕ) → Shuts (words_after i)
unfolding words_after
shuts-words i = shuts-bind (run1 is_text) _ (shuts-run1 is_text heedless-text) (λ u t. tt)

-- blank lines don't begin with a brace
no_lines : (s : List ℕ) (z : ℕ × List ℕ) → blank_block s ≡ Some z → (first s == 123) ≡ true → ⊥
unfolding blank_block spaced
no_lines s z e n =
    let (q, f, k) = first_read (blank_line s) _ z e in
    let c : first s ≡ 123 = eqb-true (first s) 123 n in
    let none : blank_inline s ≡ None = no_blank_inline s (ap (λ b. b == 32) c) in
    true_false (first s == 123) n (line_end_brace s q (line_after s q None none f))

-- an indented text begins with no brace
text_brace : (s : List ℕ) → (run_len is_text s == 0) ≡ false → (first s == 123) ≡ false
text_brace [] e = refl
text_brace (a ∷ s) e =
    elim (cases_Bool (a == 123)) [
      | inl brace ↦ absurd (true_false (run_len is_text (a ∷ s) == 0) (rw brace refl) e)
      | inr other ↦ other
    ]

-- with these no pattern goes on after blanks: `}`, `[`, `*` and `.`
abbrev pub ends_pattern : ℕ → Bool
ends_pattern n = (n == 125 || n == 91) || (n == 42 || n == 46)

pub text_first : (s : List ℕ) → (run_len is_text s == 0) ≡ false → is_text (first s) (first (drop 1 s)) ≡ true
text_first [] e = absurd (true_false (run_len is_text [] == 0) refl e)
text_first (a ∷ s) e =
    elim (cases_Bool (is_text a (first s))) [
      | inl pass ↦ pass
      | inr stop ↦ absurd (true_false (run_len is_text (a ∷ s) == 0) (rw stop refl) e)
    ]

no_space : (s : List ℕ) → run_len is_space s ≡ 0 → (first s == 32) ≡ false
no_space [] e = refl
no_space (a ∷ s) e =
    elim (cases_Bool (a == 32)) [
      | inl space ↦ let e2 = rw space at e in absurd (omega arith)
      | inr other ↦ other
    ]

run_after : (s : List ℕ) (b : Bool) (z : List ℕ × List ℕ) → ◌≡◌ {A = Read (List ℕ)} (if b then None else run is_space s) (Some z) → drop (run_len is_space s) s ≡ z.1
run_after s true z e = absurd (is_read z (sym e))
run_after s false z e = lefts (take (run_len is_space s) s) z.0 (drop (run_len is_space s) s) z.1 e

pub spaces_after : (s : List ℕ) (z : ℕ × List ℕ) → blank_inline s ≡ Some z → (first z.1 == 32) ≡ false
unfolding blank_inline run1
spaces_after s z e =
    let (q, f, k) = first_read (run1 is_space s) (λ x. pure (length x)) z e in
    let same : drop (run_len is_space s) s ≡ z.1 = run_after s (run_len is_space s == 0) q f ∙ lefts (length q.0) z.0 q.1 z.1 k in
    no_space z.1 (ap (run_len is_space) (sym same) ∙ stops is_space s)

solid_text : (c d : ℕ) → is_text c d ≡ true → (c == 32) ≡ false → is_blank c d ≡ false
solid_text c d e f = grind (arith, nat_tests)

text_goes_on : (c d : ℕ) → is_text c d ≡ true → ((not (c == 91) && not (c == 42)) && not (c == 46)) ≡ true → ends_pattern c ≡ true → ⊥
text_goes_on c d e f g = absurd (grind (arith, nat_tests))

-- an indented text doesn't begin with what ends a pattern
text_next : (n : ℕ) (s : List ℕ) (z : Words × List ℕ) → indented_text n s ≡ Some z → (first s == 32) ≡ false → ends_pattern (next s) ≡ true → ⊥
text_next n s z e f here =
    let (i, w) = indented_read n s (is_indented s) z e in
    let t = text_first s (words_some (Some n) s z w) in
    text_goes_on (first s) (first (drop 1 s)) t i (ap ends_pattern (sym (next_first s (solid_text (first s) (first (drop 1 s)) t f))) ∙ here)

pub brace_leads : {A : Type 0} (b : Parser A) → Starts (is 123) b → Leads (is 123) b
brace_leads b h = record {
  lead = λ t z e.
      let c : first t ≡ 123 = eqb-true (first t) 123 (h.start t z e) in
      ap (λ n. n == 123) (next_first t (ap (λ n. is_blank n (first (drop 1 t))) c)) ∙ h.start t z e;
}

block_after : (s : List ℕ) (z : (ℕ × Words) × List ℕ) → block_text s ≡ Some z → ends_pattern (next s) ≡ true → ⊥
unfolding block_text
block_after s z e here =
    let (q, f, k) = first_read (blank_block s) _ z e in
    let (p, g, l) = first_read (blank_inline q.1) _ z k in
    let (t, i, j) = first_read (indented_text p.0 p.1) _ z l in
    text_next p.0 p.1 t i (spaces_after q.1 p g) (ap ends_pattern (sym (keep_of blank_block s q keeps-blank_block f ∙ keep_of blank_inline q.1 p keeps-blank_inline g)) ∙ here)

leads-key : Leads (is 91) variant_key
unfolding variant_key
leads-key = leads-bind (is 91) (byte 91) _ (leads-byte (is 91) 91 refl (λ n. refl) refl)

leads-head : Leads (is 91) (variant_head false)
unfolding variant_head
leads-head =
    leads-keep (is 91) line_end _ keeps-line_end (λ _. leads-keep (is 91) (skip blank) _ keeps-blanks (λ _. leads-keep (is 91) (star false) _ (keeps-pure (tt {0})) (λ _. leads-bind (is 91) variant_key (λ key. skip blank_inline >> pure key) leads-key)))

leads-default_head : Leads (is 42) (variant_head true)
unfolding variant_head
leads-default_head = leads-keep (is 42) line_end _ keeps-line_end (λ _. leads-keep (is 42) (skip blank) _ keeps-blanks (λ _. leads-bind (is 42) (byte 42) _ (leads-byte (is 42) 42 refl (λ n. refl) refl)))

pub leads-variant : (g : Level) → Leads (is 91) (variant g false)
unfolding variant
leads-variant g = leads-bind (is 91) (variant_head false) _ leads-head

pub leads-default : (g : Level) → Leads (is 42) (variant g true)
unfolding variant
leads-default g = leads-bind (is 42) (variant_head true) _ leads-default_head

-- a line end stands before each variant
pub variant_line : (g : Level) (d : Bool) (s : List ℕ) (z : Variant × List ℕ) → variant g d s ≡ Some z → (q : Unit {0} × List ℕ) × (line_end s ≡ Some q)
unfolding variant variant_head
variant_line g d s z e =
    let (q, f, k) = first_read (variant_head d s) _ z e in
    let (p, i, j) = first_read (line_end s) _ q f in
    (p, i)

pub many_first : {A B : Type 0} (add : B → A → B) (p : Parser A) (n : ℕ) (acc : B) (t : List ℕ) (z : B × List ℕ) → many_from add p n acc t ≡ Some z → (t ≡ z.1) ⊎ ((q : A × List ℕ) × (p t ≡ Some q))
unfolding many_from
many_first add p zero acc t z e = inl (lefts acc z.0 t z.1 e)
many_first {A = A} add p (suc n) acc t z e = by (p t) refl e
  where
    by : (r : Read A) → p t ≡ r → turn add (many_from add p n) acc t r ≡ Some z → (t ≡ z.1) ⊎ ((q : A × List ℕ) × (p t ≡ Some q))
    by None f g = inl (lefts acc z.0 t z.1 g)
    by (Some q) f g = inr (q, f)

abbrev pub over : List Variant → Parser (List Variant)
over all = line_end >> pure all

abbrev pub others : Level → List Variant → Variant → Parser (List Variant)
others g before d = (λ s. many_from push (variant g false) (length s) (before ++ d ∷ []) s) >>= over

pub over_next : (all : List Variant) (t : List ℕ) (z : List Variant × List ℕ) → over all t ≡ Some z → next t ≡ next z.1
over_next all t z e = keep_of (over all) t z (keeps-bind line_end _ keeps-line_end (λ _. keeps-pure all)) e

pub over_line : (all : List Variant) (t : List ℕ) (z : List Variant × List ℕ) → over all t ≡ Some z → (q : Unit {0} × List ℕ) × (line_end t ≡ Some q)
over_line all t z e = let (q, f, k) = first_read (line_end t) (λ _. pure all) z e in (q, f)

others_line : (g : Level) (before : List Variant) (d : Variant) (t : List ℕ) (z : List Variant × List ℕ) → others g before d t ≡ Some z → (q : Unit {0} × List ℕ) × (line_end t ≡ Some q)
others_line g before d t z e =
    let (q, f, k) = first_read (many_from push (variant g false) (length t) (before ++ d ∷ []) t) over z e in
    elim (many_first push (variant g false) (length t) (before ++ d ∷ []) t q f) [
      | inl same ↦ let (l, i) = over_line q.0 q.1 z k in (l, ap line_end same ∙ i)
      | inr (a, i) ↦ variant_line g false t a i
    ]

others_next : (g : Level) (before : List Variant) (d : Variant) (t : List ℕ) (z : List Variant × List ℕ) → others g before d t ≡ Some z → (next z.1 == 125) ≡ true → ends_pattern (next t) ≡ true
others_next g before d t z e n =
    let (q, f, k) = first_read (many_from push (variant g false) (length t) (before ++ d ∷ []) t) over z e in
    elim (many_first push (variant g false) (length t) (before ++ d ∷ []) t q f) [
      | inl same ↦ let m : next t ≡ 125 = ap next same ∙ (over_next q.0 q.1 z k ∙ eqb-true (next z.1) 125 n) in ap ends_pattern m
      | inr (a, i) ↦ ap ends_pattern (eqb-true (next t) 91 ((leads-variant g).lead t a i))
    ]

default_line : (g : Level) (before : List Variant) (s : List ℕ) (z : List Variant × List ℕ) → (variant g true >>= others g before) s ≡ Some z → (q : Unit {0} × List ℕ) × (line_end s ≡ Some q)
default_line g before s z e = let (q, f, k) = first_read (variant g true s) (others g before) z e in variant_line g true s q f

near-arrow : Near arrow
unfolding arrow
near-arrow = near-then (skip blank) _ near-blanks (near-then (byte 45) _ (near-byte 45 refl) (near-then (byte 62) (skip blank_inline) (near-byte 62 refl) near-spaces))

abbrev pub selects : Level → Inline → Parser Expression
selects g x = arrow >> (variant_list g >>= (λ vs. pure (select x (variants_of vs))))

pub leads-selects : (g : Level) (x : Inline) → Leads (is 45) (selects g x)
unfolding arrow
leads-selects g x = leads-bind (is 45) arrow _ (leads-keep (is 45) (skip blank) _ keeps-blanks (λ _. leads-bind (is 45) (byte 45) _ (leads-byte (is 45) 45 refl (λ n. refl) refl)))

clash-select : (g : Level) → Clash (λ r. (next r == 125) ≡ true) (select_expression g) (inline_expression g >>= alone)
clash-select g = λ t y x r e f here.
    let (q, a, b) = first_read (selector g t) (selects g) y e in
    let (p, c, d) = first_read (inline_expression g t) (λ x. provided (is_selector x) >> pure x) q a in
    let (z, i, j) = first_read (inline_expression g t) alone (x, r) f in
    let after : q.1 ≡ r = sym (lefts p.0 q.0 p.1 q.1 (kept (is_selector p.0) p.0 p.1 q d).1) ∙ (lefts p.0 z.0 p.1 z.1 (sym c ∙ i) ∙ lefts (inline z.0) x z.1 r (kept (stands_alone z.0) (inline z.0) z.1 (x, r) j).1) in
    fails_at 45 (is 125) (next q.1) ((leads-selects g q.0).lead q.1 y b) refl (ap (λ s. next s == 125) after ∙ here)

starts-placeable : (g : Level) → Starts (is 123) (inline_placeable g)
unfolding inline_placeable
starts-placeable g = starts-bind (is 123) (byte 123) _ (starts-byte (is 123) 123 refl refl)

-- ---- what is read whatever follows

module _ (T : After) where
  -- ---- texts of lines

  -- blank lines, after which none follows
  fixed-lines : (Fixed T) (λ v. (Closed T) v × (Stops T) blank_line v) blank_block
  unfolding blank_block
  fixed-lines =
      (fixed-then T) (λ v. (Closed T) v × (Stops T) blank_line v) blank_line _ ((fixed-near T) blank_line near-blank_line) (λ _.
      (fixed-map T) (λ v. (Closed T) v × (Stops T) blank_line v) (λ more. more + 1) (count blank_line) ((fixed-many T) (Closed T) one_more blank_line 0 ((fixed-near T) blank_line near-blank_line) ((enters-closed T) blank_line))) (λ v here. here.0)

  -- ---- block text

  fixed-block_text : (Fixed T) (Closed T) block_text
  unfolding block_text
  fixed-block_text =
      (fixed-bind T) (λ v. (Closed T) v × (Stops T) blank_line v) (Closed T) blank_block block_rest fixed-lines
      (λ ends. (fixed-then T) (Closed T) blank_inline _ ((fixed-near T) blank_inline near-blank_inline) (λ n. (fixed-map T) (Closed T) (λ w. (ends, w)) (indented_text n) ((fixed-near T) (indented_text n) (near-indented n))) (closed_closed T))
      (λ ends x v1 u v e known c. ((closed_after T) v1 u v e c, λ w i. never blank_line (v1 ++ w) (λ y f. text_line ends (v1 ++ w) y (x, v ++ w) (known w i) f)))

  -- ---- block placeables

  abbrev pub Braces : Parser Expression → Type 0
  Braces b = (Fixed T) Anywhere b × Starts (is 123) b

  -- where a placeable is after an indent
  brace_after : (b : Parser Expression) → Braces b → (ends : ℕ) (s : List ℕ) (z : List Piece × List ℕ) → placeable_rest b ends s ≡ Some z → (first (spaced s (blank_inline s)) == 123) ≡ true
  brace_after b h ends s z e =
      let (q, f, k) = first_read (indent s) _ z e in
      let (x, i, j) = first_read (b q.1) _ z k in
      ap (λ t. first t == 123) (indent_after s (blank_inline s) q refl f) ∙ h.1.start q.1 x i

  pub placeable_line : (b : Parser Expression) → Braces b → (ends : ℕ) (s : List ℕ) (y : Unit {0} × List ℕ) (z : List Piece × List ℕ) → placeable_rest b ends s ≡ Some z → blank_line s ≡ Some y → ⊥
  placeable_line b h ends s y z e f =
      let t = spaced s (blank_inline s) in
      true_false (first t == 123) (brace_after b h ends s z e) (line_end_brace t y (line_after s y (blank_inline s) refl f))

  fixed-block_placeable : (b : Parser Expression) → Braces b → (Fixed T) (Closed T) (block_placeable b)
  unfolding block_placeable
  fixed-block_placeable b h =
      (fixed-bind T) (λ v. (Closed T) v × (Stops T) blank_line v) (Closed T) blank_block (placeable_rest b) fixed-lines
      (λ ends. (fixed-then T) (Closed T) indent _ ((fixed-near T) indent near-indent) (λ w. (fixed-any T) (Closed T) _ ((fixed-map T) Anywhere (λ x. line ends ∷ words w ∷ hole x ∷ []) b h.0)) (closed_closed T))
      (λ ends x v1 u v e known c. ((closed_after T) v1 u v e c, λ w i. never blank_line (v1 ++ w) (λ y f. placeable_line b h ends (v1 ++ w) y (x, v ++ w) (known w i) f)))

  -- ---- elements of patterns

  pub clash-hole : (b : Parser Expression) → Braces b → Clash Anywhere (hole_piece b) (block_placeable b)
  unfolding block_placeable
  clash-hole b h t y x r e f here =
      let (p, g, k) = first_read (b t) _ y e in
      let (q, i, j) = first_read (blank_block t) _ (x, r) f in
      no_lines t q i (h.1.start t p g)

  text_and_brace : (b : Parser Expression) → Braces b → (m n : ℕ) (s : List ℕ) (y : (ℕ × Words) × List ℕ) (z : List Piece × List ℕ) → block_rest m s ≡ Some y → placeable_rest b n s ≡ Some z → ⊥
  unfolding spaced
  text_and_brace b h m n s y z e f =
      let (q, g, k) = first_read (blank_inline s) _ y e in
      let (t, i, j) = first_read (indented_text q.0 q.1) _ y k in
      let brace : (first q.1 == 123) ≡ true = ap (λ r. first (spaced s r) == 123) (sym g) ∙ brace_after b h n s z f in
      true_false (first q.1 == 123) brace (text_brace q.1 (words_some (Some q.0) q.1 t (indented_read q.0 q.1 (is_indented q.1) t i).1))

  pub clash-block : (b : Parser Expression) → Braces b → Clash Anywhere block_piece (hole_piece b <|> block_placeable b)
  unfolding block_text block_placeable
  clash-block b h t y x r e f here =
      let (p, g, k) = first_read (block_text t) _ y e in
      let (q, i, j) = first_read (blank_block t) _ p g in
      elim (either_read (hole_piece b t) (block_placeable b) t (x, r) f) [
        | inl held ↦ let (c, l, m) = first_read (b t) _ (x, r) held in no_lines t q i (h.1.start t c l)
        | inr block ↦
            let (c, l, m) = first_read (blank_block t) _ (x, r) block in
            let same : q.1 ≡ c.1 = lefts q.0 c.0 q.1 c.1 (sym i ∙ l) in
            text_and_brace b h q.0 c.0 q.1 p (x, r) j (ap (placeable_rest b c.0) same ∙ m)
      ]

  from_hole : (b : Parser Expression) → Braces b → (Fixed T) (Closed T) (hole_piece b <|> block_placeable b)
  from_hole b h =
      (fixed-or T) (Closed T) (hole_piece b) (block_placeable b) ((fixed-any T) (Closed T) _ ((fixed-map T) Anywhere (λ x. hole x ∷ []) b h.0)) (fixed-block_placeable b h)
      ((way-clash T) (Closed T) Anywhere (hole_piece b) (block_placeable b) (λ v w i c. tt) (clash-hole b h))

  from_block : (b : Parser Expression) → Braces b → (Fixed T) (Closed T) (block_piece <|> (hole_piece b <|> block_placeable b))
  from_block b h =
      (fixed-or T) (Closed T) block_piece (hole_piece b <|> block_placeable b) ((fixed-map T) (Closed T) (λ p. line p.0 ∷ words p.1 ∷ []) block_text fixed-block_text) (from_hole b h)
      ((way-clash T) (Closed T) Anywhere block_piece (hole_piece b <|> block_placeable b) (λ v w i c. tt) (clash-block b h))

  fixed-element : (b : Parser Expression) → Braces b → (Fixed T) (Closed T) (pattern_element b)
  unfolding pattern_element
  fixed-element b h =
      (fixed-or T) (Closed T) text_piece (block_piece <|> (hole_piece b <|> block_placeable b)) ((fixed-map T) (Closed T) (λ w. words w ∷ []) inline_text ((fixed-near T) inline_text (near-words_after None))) (from_block b h)
      ((way-shut T) (Closed T) text_piece (block_piece <|> (hole_piece b <|> block_placeable b)) (shuts-map (λ w. words w ∷ []) inline_text (shuts-words None)) (from_block b h).takes (closed_closed T))

  -- ---- where a pattern ends

  -- at a text of which no byte goes on with a pattern
  abbrev pub AtEnd : List ℕ → Type 0
  AtEnd v = (Closed T) v × (Ahead T) ends_pattern v × ((w : List ℕ) → T.may w → run_len is_text (v ++ w) ≡ 0)

  pub leads-block_placeable : (b : Parser Expression) → Braces b → Leads (is 123) (block_placeable b)
  unfolding block_placeable
  leads-block_placeable b h = leads-keep (is 123) blank_block _ keeps-blank_block (λ ends. leads-keep (is 123) indent _ keeps-indent (λ w. leads-bind (is 123) b _ (brace_leads b h.1)))

  -- no element is where a pattern ends
  pub no_element : (b : Parser Expression) → Braces b → (t : List ℕ) (z : List Piece × List ℕ) → pattern_element b t ≡ Some z → run_len is_text t ≡ 0 → ends_pattern (next t) ≡ true → ⊥
  unfolding pattern_element
  no_element b h t z e n here =
      elim (either_read (text_piece t) (block_piece <|> (hole_piece b <|> block_placeable b)) t z e) [
        | inl text ↦ let (q, f, k) = first_read (inline_text t) _ z text in true_false (run_len is_text t == 0) (ap (λ m. m == 0) n) (words_some None t q f)
        | inr others ↦ elim (either_read (block_piece t) (hole_piece b <|> block_placeable b) t z others) [
          | inl block ↦ let (q, f, k) = first_read (block_text t) _ z block in block_after t q f here
          | inr more ↦ elim (either_read (hole_piece b t) (block_placeable b) t z more) [
            | inl held ↦ fails_at 123 ends_pattern (next t) ((leads-bind (is 123) b _ (brace_leads b h.1)).lead t z held) refl here
            | inr low ↦ fails_at 123 ends_pattern (next t) ((leads-block_placeable b h).lead t z low) refl here
          ]
        ]
      ]

  -- at a text where no element is
  abbrev pub NoElement : Parser Expression → List ℕ → Type 0
  NoElement b v = (Closed T) v × (Stops T) (pattern_element b) v

  fixed-pieces : (b : Parser Expression) → Braces b → (Fixed T) (NoElement b) (pieces b)
  unfolding pieces
  fixed-pieces b h =
      (fixed-then T) (NoElement b) (pattern_element b) _ (fixed-element b h) (λ prefix. (fixed-many T) (Closed T) ◌++◌ (pattern_element b) prefix (fixed-element b h) ((enters-closed T) (pattern_element b))) (λ v here. here.0)

  pub fixed-pattern : (b : Parser Expression) → Braces b → (Fixed T) (NoElement b) (pattern b)
  fixed-pattern b h = (fixed-map T) (NoElement b) (λ ps. pattern_of (elements ps)) (pieces b) (fixed-pieces b h)

  pub end_stops : (b : Parser Expression) → Braces b → (v : List ℕ) → AtEnd v → NoElement b v
  end_stops b h v here = (here.0, λ w i. never (pattern_element b) (v ++ w) (λ z e. no_element b h (v ++ w) z e (here.2 w i) (here.1 w i)))

  -- ---- variants

  at_end : (v : List ℕ) → (Closed T) v → ((w : List ℕ) → T.may w → (q : Unit {0} × List ℕ) × (line_end (v ++ w) ≡ Some q)) → (Ahead T) ends_pattern v → AtEnd v
  at_end v c l a = (c, a, λ w i. line_end_text (v ++ w) (l w i).0 (l w i).1)

  pub braces_of : (g : Level) → (Firm T) g → Braces g.braces
  braces_of g h = (h.braces, h.brace)

  fixed-variant : (g : Level) → (Firm T) g → (d : Bool) → (Fixed T) AtEnd (variant g d)
  unfolding variant
  fixed-variant g h d =
      (fixed-then T) AtEnd (variant_head d) _ ((fixed-near T) (variant_head d) (near-variant_head d)) (λ key. (fixed-map T) AtEnd (λ p. (key, p, d)) (pattern g.braces) ((fixed-weaker T) (NoElement g.braces) AtEnd (pattern g.braces) (end_stops g.braces (braces_of g h)) (fixed-pattern g.braces (braces_of g h)))) (λ v here. here.0)

  enters-variant : (g : Level) → (Enters T) AtEnd (variant g false)
  enters-variant g = λ a s u v e known here.
      at_end s ((closed_after T) s u v e here.0) (λ w i. variant_line g false (s ++ w) (a, v ++ w) (known w i)) ((inline_end T) 91 ends_pattern (λ n k. grind (arith, nat_tests)) s ((ahead T) (is 91) (variant g false) s a v (leads-variant g) known))

  fixed-over : (all : List Variant) → (Fixed T) (Closed T) (over all)
  fixed-over all = (fixed-near T) (over all) (near-then line_end (pure all) near-line_end (near-pure all))

  fixed-others : (g : Level) → (Firm T) g → (before : List Variant) (d : Variant) → (Fixed T) ((End T) (is 125)) (others g before d)
  fixed-others g h before d =
      (fixed-bind T) (λ v. AtEnd v × (Stops T) (variant g false) v) ((End T) (is 125)) _ over ((fixed-many T) AtEnd push (variant g false) (before ++ d ∷ []) (fixed-variant g h false) (enters-variant g))
      (λ all. (fixed-weaker T) (Closed T) ((End T) (is 125)) (over all) ((closed_end T) (is 125)) (fixed-over all))
      (λ all x v1 u v e known here.
      let n : (w : List ℕ) → T.may w → (next (v1 ++ w) == 125) ≡ true = λ w i. ap (λ k. k == 125) (over_next all (v1 ++ w) (x, v ++ w) (known w i)) ∙ here.1 w i in (
        at_end v1 ((closed_after T) v1 u v e here.0) (λ w i. over_line all (v1 ++ w) (x, v ++ w) (known w i)) (λ w i. ap ends_pattern (eqb-true (next (v1 ++ w)) 125 (n w i))),
        λ w i. never (variant g false) (v1 ++ w) (λ y f. fails_at 91 (is 125) (next (v1 ++ w)) ((leads-variant g).lead (v1 ++ w) y f) refl (n w i)),
      ))

  fixed-from_default : (g : Level) → (Firm T) g → (before : List Variant) → (Fixed T) ((End T) (is 125)) (variant g true >>= others g before)
  fixed-from_default g h before =
      (fixed-bind T) AtEnd ((End T) (is 125)) (variant g true) (others g before) (fixed-variant g h true) (fixed-others g h before)
      (λ d x v1 u v e known here. at_end v1 ((closed_after T) v1 u v e here.0) (λ w i. others_line g before d (v1 ++ w) (x, v ++ w) (known w i)) (λ w i. others_next g before d (v1 ++ w) (x, v ++ w) (known w i) (here.1 w i)))

  fixed-variant_list : (g : Level) → (Firm T) g → (Fixed T) ((End T) (is 125)) (variant_list g)
  unfolding variant_list
  fixed-variant_list g h =
      (fixed-bind T) (λ v. AtEnd v × (Stops T) (variant g false) v) ((End T) (is 125)) _ (λ before. variant g true >>= others g before) ((fixed-many T) AtEnd push (variant g false) [] (fixed-variant g h false) (enters-variant g)) (fixed-from_default g h)
      (λ before x v1 u v e known here.
      let n : (w : List ℕ) → T.may w → (next (v1 ++ w) == 42) ≡ true = (ahead T) (is 42) (variant g true >>= others g before) v1 x v (leads-bind (is 42) (variant g true) _ (leads-default g)) known in (
        at_end v1 ((closed_after T) v1 u v e here.0) (λ w i. default_line g before (v1 ++ w) (x, v ++ w) (known w i)) (λ w i. ap ends_pattern (eqb-true (next (v1 ++ w)) 42 (n w i))),
        λ w i. never (variant g false) (v1 ++ w) (λ y f. fails_at 91 (is 42) (next (v1 ++ w)) ((leads-variant g).lead (v1 ++ w) y f) refl (n w i)),
      ))

  -- ---- expressions

  fixed-select : (g : Level) → (Firm T) g → (Fixed T) ((End T) (is 125)) (select_expression g)
  fixed-select g h =
      (fixed-bind T) ((End T) ends_inline) ((End T) (is 125)) (selector g) (selects g) ((fixed-sift T) ((End T) ends_inline) is_selector (λ x. x) (inline_expression g) ((fixed-inline T) g h))
      (λ x. (fixed-then T) ((End T) (is 125)) arrow _ ((fixed-near T) arrow near-arrow) (λ _. (fixed-map T) ((End T) (is 125)) (λ vs. select x (variants_of vs)) (variant_list g) (fixed-variant_list g h)) ((closed_end T) (is 125)))
      (λ x y v1 u v e known here. ((closed_after T) v1 u v e here.0, (inline_end T) 45 ends_inline (λ n k. grind (arith, nat_tests)) v1 ((ahead T) (is 45) (selects g x) v1 y v (leads-selects g x) known)))

  fixed-alone : (g : Level) → (Firm T) g → (Fixed T) ((End T) (is 125)) (inline_expression g >>= alone)
  fixed-alone g h =
      (fixed-sift T) ((End T) (is 125)) stands_alone inline (inline_expression g)
      ((fixed-weaker T) ((End T) ends_inline) ((End T) (is 125)) (inline_expression g) (λ v here. (here.0, (inline_end T) 125 ends_inline (λ n k. grind (arith, nat_tests)) v here.1)) ((fixed-inline T) g h))

  fixed-expression : (g : Level) → (Firm T) g → (Fixed T) ((End T) (is 125)) (expression g)
  unfolding expression
  fixed-expression g h =
      (fixed-or T) ((End T) (is 125)) (select_expression g) (inline_expression g >>= alone) (fixed-select g h) (fixed-alone g h) ((way-end T) (is 125) (select_expression g) (inline_expression g >>= alone) (clash-select g))

  -- ---- placeables

  fixed-inside : (g : Level) → (Firm T) g → (Fixed T) Anywhere (expression g >>= closed_by 125)
  unfolding closes
  fixed-inside g h =
      (fixed-bind T) ((End T) (is 125)) Anywhere (expression g) (closed_by 125) (fixed-expression g h) (λ x. (fixed-closed_by T) 125 x refl refl)
      (λ x y v1 u v e known here. (((closing-closed_by T) 125 x refl refl).closing v1 y v (known T.here T.holds), (ahead T) (is 125) (closed_by 125 x) v1 y v (leads-closed_by 125 x refl (λ n. refl) refl) known))

  closing-inside : (g : Level) → (Firm T) g → (Closing T) (expression g >>= closed_by 125)
  unfolding closes
  closing-inside g h = (closing-bind T) (expression g) (closed_by 125) (fixed-expression g h).takes (λ x. ((fixed-closed_by T) 125 x refl refl).takes) (λ x. (closing-closed_by T) 125 x refl refl)

  fixed-opened : (g : Level) → (Firm T) g → (Fixed T) Anywhere (skip blank >> (expression g >>= closed_by 125))
  fixed-opened g h =
      (fixed-bind T) (Closed T) Anywhere (skip blank) _ ((fixed-near T) (skip blank) near-blanks) (λ _. fixed-inside g h) (λ a x v1 u v e known here. (closing-inside g h).closing v1 x v (known T.here T.holds))

  fixed-placeable : (g : Level) → (Firm T) g → (Fixed T) Anywhere (inline_placeable g)
  unfolding inline_placeable
  fixed-placeable g h = (fixed-bind T) Anywhere Anywhere (byte 123) _ ((fixed-byte T) 123 refl) (λ _. fixed-opened g h) (λ a x v1 u v e known here. tt)

  -- ---- at every depth

  pub firm : (n : ℕ) → (Firm T) (level n)
  unfolding level
  firm zero = record {
    braces = (fixed-refuse T) Anywhere;
    brackets = (fixed-refuse T) Anywhere;
    brace = record { start = λ t z e. absurd (is_read z (sym e)) };
    bracket = record { lead = λ t z e. absurd (is_read z (sym e)) };
  }
  firm (suc n) = record {
    braces = fixed-placeable (level n) (firm n);
    brackets = (fixed-call_arguments T) (level n) (firm n);
    brace = starts-placeable (level n);
    bracket = leads-call_arguments (level n);
  }

-- ---- the laws

-- whatever follows
abbrev any : List ℕ → After
any t = record { may = λ w. Unit {0}; here = t; holds = tt }

by_prefix_alone : {A : Type 0} (p : Parser A) → ((T : After) → Fixed T Anywhere p) → (s : List ℕ) → ReadByPrefixAlone p s
by_prefix_alone p h s x after e =
    let fixed = h (any after) in
    let fr : (u : List ℕ) × (s ≡ u ++ after) = subst (TakesTo s) e (fixed.takes.prefix s) in
    (fr.0, fr.1, λ other. fixed.fixed.settled fr.0 x [] tt (ap p (sym fr.1) ∙ e) other tt)

pub placeable_by_prefix : (n : ℕ) (s : List ℕ) → ReadByPrefixAlone (level n).braces s
placeable_by_prefix n s = by_prefix_alone (level n).braces (λ T. (firm T n).braces) s

pub call_by_prefix : (n : ℕ) (s : List ℕ) → ReadByPrefixAlone (level n).brackets s
call_by_prefix n s = by_prefix_alone (level n).brackets (λ T. (firm T n).brackets) s

pub ruleset rules_by_prefix_alone = (placeable_by_prefix, call_by_prefix)
